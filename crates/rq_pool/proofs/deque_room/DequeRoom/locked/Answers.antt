use Rattle.std.proofs.Common.{map, vec_len, get_or, sym}
use Rattle.rq_pool.proofs.Words.{deck_id}
use Rattle.rq_pool.proofs.Dealing.{opened, none_filled, reached_at}
use Rattle.rq_pool.proofs.deque_room.DequeRoom.locked.Goals as goal

pub new-requires : goal.new-requires
new-requires c = let decks = c.args.decks in let n = vec_len decks in record {
  same = sym (reached_at (map deck_id decks.items) c.args.first.now.place c.requires.first);
  none_back = λ k d lt. opened n (get_or decks.items k d) (c.requires.decks k d lt);
  ownerless = none_filled n decks.items c.requires.decks;
}
