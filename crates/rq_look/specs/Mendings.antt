-- What is said of a log that was mended.
use Rattle.std.specs.Prelude.{ℕ, List, [], ◌++◌, length, codes, Option, Some, None}
use Rattle.std.specs.List.{flat_map}
use Rattle.std.specs.Fmt.{decimal}
use Rattle.rq_behind.specs.declared.changes.Change.{Change}
use Rattle.rq_behind.specs.declared.efforts.Untried.{Untried}
use Rattle.rq_behind.specs.declared.efforts.Untried.TheVariants.{Long, Spent}
use Rattle.rq_behind.specs.declared.mended_logs.Mended.{Mended}

-- the line of a byte that was put back
abbrev pub change_text : Change → List ℕ
change_text c = codes "at " ++ (decimal c.offset ++ (codes " stood " ++ (decimal c.was ++ (codes ", now "
    ++ (decimal c.now ++ (codes ": the digest of the frame at " ++ (decimal c.frame ++ codes " proves it\n")))))))

-- the line of what was not tried, if something was not
abbrev pub untried_text : Option Untried → List ℕ
untried_text None = []
untried_text (Some Long) = codes "not tried: each byte of the body there, which is too long\n"
untried_text (Some Spent) = codes "not tried: more, since so much was tried in vain\n"

-- a line for each byte; how many they are; and what was not tried
abbrev pub mended_text : Mended → List ℕ
mended_text m = flat_map change_text m.changes.items
    ++ (decimal (length m.changes.items) ++ codes " bytes were put back\n") ++ untried_text m.untried
