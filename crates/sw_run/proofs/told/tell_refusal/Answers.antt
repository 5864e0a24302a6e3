use Rattle.sw_run.specs.declared.told.Refusal.TheVariants.{Usage, TooLong, Unbuilt, ReadFault}
use Rattle.sw_run.proofs.Ends.{tells_line, tells_same}
use Rattle.sw_run.proofs.told.tell_refusal.Goals as goal

pub returns-in-Usage : goal.returns-in-Usage
returns-in-Usage g c = tells_line _ Usage _ _ c.in-Usage.is c.write_text.ensures

pub returns-in-TooLong : goal.returns-in-TooLong
returns-in-TooLong g c = tells_line _ TooLong _ _ c.in-TooLong.is c.write_text-in-TooLong.ensures

pub returns-in-Unbuilt : goal.returns-in-Unbuilt
returns-in-Unbuilt g c = tells_line _ Unbuilt _ _ c.in-Unbuilt.is c.write_text-in-Unbuilt.ensures

pub returns-in-ReadFault : goal.returns-in-ReadFault
returns-in-ReadFault g c = tells_line _ ReadFault _ _ c.in-ReadFault.is c.write_text-in-ReadFault.ensures

pub returns-in-NotStratified : goal.returns-in-NotStratified
returns-in-NotStratified g c = tells_same _ _ _ _ c.in-NotStratified.is c.tell_cycle.ensures

pub returns-in-SpaceFaulty : goal.returns-in-SpaceFaulty
returns-in-SpaceFaulty g c = tells_same _ _ _ _ c.in-SpaceFaulty.is c.tell_template.ensures

pub returns-in-BreadthFaulty : goal.returns-in-BreadthFaulty
returns-in-BreadthFaulty g c = tells_same _ _ _ _ c.in-BreadthFaulty.is c.tell_template-in-BreadthFaulty.ensures

pub returns-in-FinishFaulty : goal.returns-in-FinishFaulty
returns-in-FinishFaulty g c = tells_same _ _ _ _ c.in-FinishFaulty.is c.tell_template-in-FinishFaulty.ensures
