-- Elements by id, out of a list in any order.
use Rattle.std.specs.Prelude.{List}
use Rattle.rq_model.specs.States.{Element, id_before}
use Rattle.rq_state.specs.Orders.{put_in_order}

-- each put in by its id
abbrev pub sorted : List Element → List Element
sorted es = put_in_order id_before es
