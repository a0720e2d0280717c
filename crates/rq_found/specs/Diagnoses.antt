-- What is said of a log in one line, and what to do next.
use Rattle.std.specs.Prelude.{ℕ, Bool, true, false, not, ◌&&◌, nat_le, List, ◌++◌, codes, if◌then◌else◌}
use Rattle.rq_model.specs.Fronts.{Why, Ends, Form, Law}
use Rattle.rq_found.specs.Ends.{is_whole}
use Rattle.rq_found.specs.declared.diagnoses.Diagnosis.{Diagnosis}
use Rattle.rq_found.specs.declared.diagnoses.Diagnosis.TheVariants.{Whole, Untrue, Torn, Damaged}

-- a crash leaves no more bytes behind a front
abbrev pub torn_limit : ℕ
torn_limit = 1048576

-- a crash may be why the front ends: no frame behind it is right in itself
abbrev pub may_be_torn : Why → Bool
may_be_torn (Ends rest) = true
may_be_torn Form = false
may_be_torn Law = false

-- so many bytes follow the front; `right`: a frame behind it may be right in itself; `sound`: each
-- checkpoint of the front is true
abbrev pub diagnosis_of : Why → ℕ → Bool → Bool → Diagnosis
diagnosis_of why rest right sound = if is_whole why then (if sound then Whole else Untrue)
    else if may_be_torn why && (not right && nat_le rest torn_limit) then Torn else Damaged

-- it in words for a log of this name, with what to do next
abbrev pub diagnosis_text : Diagnosis → List ℕ → List ℕ
diagnosis_text Whole name =
    codes "verdict: whole, each checkpoint is true. Next: rqlog append " ++ name
diagnosis_text Untrue name = codes "verdict: whole, but not each checkpoint is true. Next: rqlog restart "
    ++ name
diagnosis_text Torn name = codes "verdict: a torn end, as a crash leaves it. Next: rqlog recover "
    ++ name
diagnosis_text Damaged name = codes "verdict: damaged. Next: rqlook mend " ++ (name
    ++ (codes " NEW, or rqlook salvage " ++ (name ++ codes " SCRIPT")))
