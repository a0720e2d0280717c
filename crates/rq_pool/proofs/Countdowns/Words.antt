-- The words of the proofs about countdowns, passed on from one place.
pub use Rattle.atomic_table.proofs.Lists.{at_last, at_longer, at_map, at_snoc, set_again, set_else, set_here}
pub use Rattle.atomic_table.specs.Table.{Act, Allows, Final, Joins, Me, Seen, Splits, State, Valid, carried_after}
pub use Rattle.atomic_table.specs.Table.{chain, gives, homes_after, keeps, opening, rest, step, stepped, takes}
pub use Rattle.rq_pool.specs.Countdowns.Arrivals.{Settled, arrivals_for, if_kept, if_last, kept_for, kept_from}
pub use Rattle.rq_pool.specs.Countdowns.Arrivals.{last_lists, only}
pub use Rattle.rq_pool.specs.Countdowns.History.{Fit, back_by, back_in, entry, if_twice, refused_outboxes}
pub use Rattle.rq_pool.specs.Countdowns.Phases.{Phase, add_some, away, back, clear, count, flag, gone, home, indexed}
pub use Rattle.rq_pool.specs.Countdowns.Phases.{is_away, is_done, is_shut, outbox_of, outboxes_in, place, somes, total}
pub use Rattle.rq_pool.specs.Countdowns.Phases.{waits}
pub use Rattle.rq_pool.specs.Countdowns.Rule.{AtSource, HasLast, HasMade, Held, IsOpen, IsSet, IsShut, Knows, SomeView}
pub use Rattle.rq_pool.specs.Countdowns.Rule.{after, both_of, claimed, count_told, hands_back, here, lasts, left_of}
pub use Rattle.rq_pool.specs.Countdowns.Rule.{made_for, made_of, names, one_if, parts, right_of, spent_view, stands_at}
pub use Rattle.rq_pool.specs.Countdowns.Rule.{tallied, times_told, view}
pub use Rattle.rq_pool.specs.Countdowns.Rule.{all_made, all_refused, made_by, made_in, refused_in}
pub use Rattle.rq_pool.specs.declared.countdown.arrival.Arrival.{Arrival}
pub use Rattle.rq_pool.specs.declared.countdown.arrival.Arrival.TheVariants.{Last, NotLast}
pub use Rattle.rq_pool.specs.declared.countdown.arrival.Entry.{Entry}
pub use Rattle.rq_pool.specs.declared.countdown.plays.Made.{Made}
pub use Rattle.rq_pool.specs.declared.countdown.plays.Terms.{Terms}
pub use Rattle.rq_pool.specs.declared.countdown.plays.View.{View}
pub use Rattle.std.proofs.lemmas.Grind.{common_steps, flat_map-append}
pub use Rattle.std.proofs.Math.Seq.{map-set_same}
pub use Rattle.std.proofs.lemmas.List.{get_or-map, length-map, length-replicate, length_push, map_push, nil_from_length}
pub use Rattle.std.proofs.lemmas.List.{replicate_more}
pub use Rattle.std.proofs.lemmas.List.Elements.{All-pop, All-push}
pub use Rattle.std.specs.Slots.{slots_filled, slots_items, slots_len}
pub use Rattle.std.specs.Slots.Ownership.{Filled}
pub use lib.ListN.{get_elem?}
pub use lib.Seq.{map-set}
pub use mathlib.Core.List.{map-map}
pub use mathlib.Core.Logic.{dite}
pub use mathlib.Core.Option.{none, some, some-injective, some-ne-none}
pub use native.Mathlib.Decide.{ℕ_discrete}
