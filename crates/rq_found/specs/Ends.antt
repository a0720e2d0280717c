-- Where the front of a log ends, as it is found and told.
use Rattle.std.specs.Prelude.{ℕ, Bool, true, false, List, [], ◌++◌, codes, Option, Some, None}
use Rattle.std.specs.Fmt.{decimal}
use Rattle.rq_model.specs.Frames.{Whole}
use Rattle.rq_model.specs.Fronts.{Why, Ends, Restarted, IsRestart}
use Rattle.rq_model.specs.Reports.{why_text}
use Rattle.rq_model.specs.Carrying.{IsCarriedRestart}

-- nothing follows the front
abbrev pub is_whole : Why → Bool
is_whole (Ends Whole) = true
is_whole _ = false

-- the restart of b, or that of a carried file that is read as b, from the checkpoint at an offset
abbrev pub IsRestartFrom : Option ℕ → List ℕ → Restarted → Type 0
IsRestartFrom None b r = IsRestart b r
IsRestartFrom (Some at) b r = IsCarriedRestart b at r

-- the line that says at which offset the checkpoint stands that a log begins with
abbrev pub beginning_text : Option ℕ → List ℕ
beginning_text None = []
beginning_text (Some at) =
    codes "carried: begins with the checkpoint at " ++ (decimal at ++ codes "\n")

-- its records, its bytes, all bytes, why it ends, and the reason
abbrev pub end_numbers : ℕ → ℕ → ℕ → Why → List ℕ → List ℕ
end_numbers records used total why reason = decimal records
    ++ (codes " records, at " ++ (decimal used ++ (codes " of " ++ (decimal total
    ++ (codes " bytes, " ++ (why_text why ++ (codes ": " ++ (reason ++ codes "\n"))))))))

-- the line of where a front ends
abbrev pub end_text : ℕ → ℕ → ℕ → Why → List ℕ → List ℕ
end_text records used total why reason =
    codes "front ends behind " ++ end_numbers records used total why reason

-- this line for what a restart answers
abbrev pub end_line : Restarted → List ℕ → List ℕ
end_line r reason = end_text r.records r.used r.total r.why reason
