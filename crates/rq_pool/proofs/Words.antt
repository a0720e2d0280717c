-- The words of these proofs, passed on from one place.
pub use Rattle.crossbeam_deque.proofs.Lists.{set_else}
pub use Rattle.crossbeam_deque.specs.Handles.{IsPassOf, view, worker_capacity, worker_deque, worker_flavor}
pub use Rattle.crossbeam_deque.specs.Handles.{worker_index, worker_view}
pub use Rattle.crossbeam_deque.specs.declared.handles.Worker.{Worker}
pub use Rattle.rq_pool.specs.Decks.{DeckId, IsComplete, IsOpen, IsStocked, IsWhole, dealt_length, dealt_weight, deck_id}
pub use Rattle.rq_pool.specs.Decks.{deck_list, filled, list_in, owner_count, owner_id, owner_weight, taken_weight}
pub use Rattle.rq_pool.specs.Holdings.{Holds, source_id, stolen}
pub use Rattle.rq_pool.specs.Ledger.{Ledger, size, times, times_in}
pub use Rattle.rq_pool.specs.Passes.{parts_of, weight_of, share}
pub use Rattle.rq_pool.specs.Rooms.{IsPlaceBeside, IsSeatBeside, ids_of, lists_of, taken_of}
pub use Rattle.rq_pool.specs.Rules.{Balanced, Emptied, FitsDeal, Pushed, Taken}
pub use Rattle.rq_pool.specs.Vaults.{Keeps, reach, reach_at}
pub use Rattle.rq_pool.specs.declared.deck.Deck.{Deck}
pub use Rattle.rq_pool.specs.declared.deque.DealRule.{DealRule}
pub use Rattle.rq_pool.specs.declared.deque.Share.{Share}
pub use Rattle.std.proofs.Math.Seq.{map-set, map-set_same}
pub use Rattle.std.proofs.lemmas.List.{get_or-map, get_or-reverse, get_or-set_other, length-append, length-map}
pub use Rattle.std.proofs.lemmas.List.{length-replicate, length-reverse, map-append, nil_from_length}
pub use Rattle.std.proofs.lemmas.List.{replicate-append-replicate, reverse-append, reverse-reverse, take_more}
pub use Rattle.std.proofs.lemmas.List.{with_items_is}
pub use Rattle.std.proofs.lemmas.List.Elements.{All-pop, All-push}
pub use Rattle.std.proofs.lemmas.List.Sums.{sum-map, sum_by-append, sum_by-cons, sum_by-set, sum_by-take-drop}
pub use Rattle.std.proofs.lemmas.List.Sums.{sum_by_push}
pub use Rattle.std.specs.Global.{Global}
pub use lib.ListN.{get_elem?}
pub use mathlib.Core.List.{map-map}
pub use mathlib.Core.Logic.{dite}
pub use mathlib.Core.Option.{some, some-injective}
pub use native.Mathlib.Decide.{ℕ_discrete}
