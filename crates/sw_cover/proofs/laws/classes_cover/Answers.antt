use Rattle.sw_cover.proofs.Covering.{all_classes_cover}
use Rattle.sw_cover.proofs.laws.classes_cover.Goals as goal

pub returns : goal.returns
returns c = all_classes_cover
