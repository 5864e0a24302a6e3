use Rattle.sw_cover.proofs.Parted.{parts_are_classes}
use Rattle.sw_cover.proofs.laws.parts_are_classes.Goals as goal

pub returns : goal.returns
returns c = parts_are_classes
