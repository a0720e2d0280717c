use Rattle.std.proofs.Common.{◌≡◌, ◌++◌, Bool, true, drop}
use Rattle.std.specs.List.{AllByRecursion}
use Rattle.std.specs.Map.{values_of}
use Rattle.rq_model.specs.States.{Note}
use Rattle.rq_queue.specs.Noted.{Apart, AreByPlace, NoteEntry, by_place, is_own, left}
use Rattle.rq_queue.proofs.draws.drawn.Given as goal

abbrev pub invariant-loop-place : goal.invariant-loop-place
invariant-loop-place l = record {
  in_order : AreByPlace l.all.entries;
  some : (p : NoteEntry → Bool) → AllByRecursion (λ (e : NoteEntry). p e ≡ true) l.fn.all.entries
      → AllByRecursion (λ (e : NoteEntry). p e ≡ true) l.all.entries;
  rest : left l.whose (drop l.place-index l.places) l.all.entries ≡ left l.whose l.places l.fn.all.entries;
  own : AllByRecursion (λ (n : Note). is_own l.whose n ≡ true) l.drawn.items;
  apart : Apart (l.drawn.items ++ values_of l.all.entries);
  together : by_place (l.drawn.items ++ values_of l.all.entries) ≡ values_of l.fn.all.entries;
}
