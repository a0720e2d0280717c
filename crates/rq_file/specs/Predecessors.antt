-- What a file that is made may take the place of.
use Rattle.std.specs.Prelude.{ℕ, Bool, true, false, not, ◌&&◌, List, codes, nat_eq}
use Rattle.std.specs.List.{starts_with}
use Rattle.rq_file.specs.declared.predecessors.Replaces.{Replaces}
use Rattle.rq_file.specs.declared.predecessors.Replaces.TheVariants.{Nothing, Beginning, Remark, NoLog, Anything}

-- a file that begins so is a log
abbrev pub is_log : List ℕ → Bool
is_log found = starts_with nat_eq found (codes "RQLOG")

-- a file that begins so gives way, of which it is known whether it is an earlier one of its kind: a log
-- does so only if anything does
abbrev pub gives_way : Replaces → List ℕ → Bool → Bool
gives_way Nothing found earlier = false
gives_way (Beginning beginning) found earlier = not (is_log found) && earlier
gives_way (Remark remark) found earlier = not (is_log found) && earlier
gives_way NoLog found earlier = not (is_log found)
gives_way Anything found earlier = true
