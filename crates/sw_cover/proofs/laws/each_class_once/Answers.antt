use Rattle.sw_cover.proofs.Once.{classes_apart}
use Rattle.sw_cover.proofs.laws.each_class_once.Goals as goal

pub returns : goal.returns
returns c = classes_apart
