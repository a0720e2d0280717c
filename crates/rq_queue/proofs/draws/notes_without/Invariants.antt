use Rattle.std.proofs.Common.{◌≡◌, drop}
use Rattle.rq_queue.specs.Noted.{left, AreByPlace}
use Rattle.rq_queue.proofs.draws.notes_without.Given as goal

abbrev pub invariant-loop-place : goal.invariant-loop-place
invariant-loop-place l = record {
  by_place : AreByPlace l.all.entries;
  rest : left l.whose (drop l.place-index l.places) l.all.entries ≡ left l.whose l.places l.fn.all.entries;
}
