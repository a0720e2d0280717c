-- Why a front ends, among the words of the model.
use Rattle.rq_model.specs.Fronts as fronts
use Rattle.rq_model.specs.Frames as frames
use Rattle.rq_judged.specs.declared.ends.Why.{Why}
use Rattle.rq_judged.specs.declared.ends.Why.TheVariants.{Whole, Cut, Length, Chain, Form, Law}

abbrev pub why_of : Why → fronts.Why
why_of Whole = fronts.Ends frames.Whole
why_of Cut = fronts.Ends frames.Cut
why_of Length = fronts.Ends frames.Length
why_of Chain = fronts.Ends frames.Digest
why_of Form = fronts.Form
why_of Law = fronts.Law
