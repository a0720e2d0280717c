-- The words of these proofs, passed on from one place.
pub use Rattle.rq_exchange.specs.Gathering.{HasPart, IsPart, AreParts, IsRedoneTo}
pub use Rattle.rq_exchange.specs.Chains.{AreBoxes, ArePasses, HasFollowed, HasPasses, IsChainOf, IsColumn}
pub use Rattle.rq_exchange.specs.Chains.{IsCountdownOf, IsRedone, IsSettled, boxes_of, diaries_of, due, redone_in}
pub use Rattle.rq_exchange.specs.Chains.{web_of}
pub use Rattle.rq_exchange.specs.Courses.{IsAlone, Recounts, StartsByLast, all_told, redone_by, redone_of, told_to}
pub use Rattle.rq_exchange.specs.Coverage.{DiariesTell, HandsOn, IsWeb, IsWebClosed, Web, arrived_at, asked, lasts_at}
pub use Rattle.rq_exchange.specs.Coverage.{source_at, told_at}
pub use Rattle.rq_exchange.specs.Jobs.{IsJob, errors_in, records_of}
pub use Rattle.rq_exchange.specs.Links.{AreBare, AreRanks, Fall, at, naming}
pub use Rattle.rq_exchange.specs.Openings.{AreOpened, IsFreshColumn, Opened}
pub use Rattle.rq_exchange.specs.Pairs.{AreColumns, EachWith, Halfway}
pub use Rattle.rq_exchange.specs.Workers.{AllKeep, AreFreshPasses, AreHandedBack, AreSettled, HasEnded, HasKept}
pub use Rattle.rq_exchange.specs.Workers.{HaveKept, IsFreshSeat, IsFreshWorker, Works}
pub use Rattle.rq_exchange.specs.declared.chain.CountdownChain.{CountdownChain}
pub use Rattle.rq_exchange.specs.declared.crew.WorkDone.{WorkDone}
pub use Rattle.rq_exchange.specs.declared.jobs.Job.{Job}
pub use Rattle.rq_exchange.specs.declared.outboxes.Outbox.{Outbox}
pub use Rattle.rq_exchange.specs.declared.outboxes.Target.{Target}
pub use Rattle.rq_model.proofs.Lists.{by_cases, each_weaker, filter_none, map_same}
pub use Rattle.rq_model.specs.Laws.{AreSources, merged, move_before, Rise, earlier}
pub use Rattle.rq_model.specs.Machine.{all_lawful, lawful_front, run}
pub use Rattle.rq_model.specs.Queues.{Move, Op, Part, arrivals, defined_by, moves, part_of, touches, touching}
pub use Rattle.rq_model.specs.Queues.{touching_from, with_definitions}
pub use Rattle.rq_model.specs.Records.{Begin, Record, Two}
pub use Rattle.rq_model.specs.States.{Definition, Element, Note, Registrant, State, definition_at, id_before}
pub use Rattle.rq_model.specs.States.{no_definition, registrant_before}
pub use Rattle.rq_model.specs.WellFormed.{AreDefinitions, IsWellFormed, Ordered}
pub use Rattle.rq_pool.specs.Countdowns.Arrivals.{Settled, arrivals_for, if_last, last_lists}
pub use Rattle.rq_pool.specs.Countdowns.Words.{history_of, key_of, sources_of}
pub use Rattle.rq_pool.specs.Ledger.{Ledger, size, times, times_in}
pub use Rattle.rq_pool.specs.Rooms.{IsSeatOf, deal_of, taken_of}
pub use Rattle.rq_pool.specs.declared.countdown.Countdown.{Countdown}
pub use Rattle.rq_pool.specs.declared.countdown.arrival.Entry.{Entry}
pub use Rattle.rq_pool.specs.declared.countdown.fits.Fits.{Ghosts}
pub use Rattle.rq_pool.specs.declared.countdown.pass.Pass.{Pass}
pub use Rattle.rq_pool.specs.declared.room.Room.{Room}
pub use Rattle.rq_queue.proofs.Gathered.{is_same, members, poured_more}
pub use Rattle.rq_queue.specs.Case.{IsCase}
pub use Rattle.rq_record.specs.Views.{record_of, version_of}
pub use Rattle.rq_state.specs.Orders.{indices_of, listed, place_before, state_in_order}
pub use Rattle.std.proofs.lemmas.Bool.{cases_Bool, cases_eq, cases_lt, eqb-true, ne_eqb}
pub use Rattle.std.proofs.lemmas.Bool.Decides.{eqb_tells, nat_tests}
pub use Rattle.std.proofs.lemmas.Grind.{common_steps, elements, flat_map-append, get_or-set_at, get_or_head}
pub use Rattle.std.proofs.lemmas.Grind.{get_or_tail}
pub use Rattle.std.proofs.lemmas.Iterator.Adapters.{YieldsList-from_vec}
pub use Rattle.std.proofs.lemmas.List.{get_or-map, get_or-set_other, get_or_at, get_or_default, get_or_past}
pub use Rattle.std.proofs.lemmas.List.{get_or_push, get_or_read_under, length-append, length-map, length-set}
pub use Rattle.std.proofs.lemmas.List.{length-take, length_push, map-append, map-set, map_push, nil_from_length}
pub use Rattle.std.proofs.lemmas.List.{reverse-append, take_all, take_more, with_items_is}
pub use Rattle.std.proofs.lemmas.List.Elements.{All-from_recursion, All-map, All-push, recursion_from_All}
pub use Rattle.std.proofs.lemmas.List.Folds.{flat_map-map, fold-map, fold_stays}
pub use Rattle.std.proofs.lemmas.List.Sums.{get_or-le-sum_by, sum_by-append, sum_by-cons, sum_by-set, sum_by_more}
pub use Rattle.std.proofs.lemmas.List.Sums.{sum_by_push}
pub use Rattle.std.specs.Iterator.{DrainsIf, Yields}
pub use Rattle.std.specs.List.{AllByRecursion, list_any}
pub use Rattle.std.specs.List.Sorted.{IsSortedBy}
pub use Rattle.std.specs.Vec.Iter.{into_iter_items, into_iter_len, into_iter_steps}
pub use Rattle.std.specs.declared.vec.IntoIter.{IntoIter}
pub use mathlib.Core.List.{map-map}
