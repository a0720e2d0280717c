-- The contents of a kept registrant.
use Rattle.std.specs.Prelude.{None, Some}
use Rattle.rq_model.specs.States.{Registrant}
use Rattle.rq_state.specs.declared.kept_registrant.RegistrantForm.{RegistrantForm}
use Rattle.rq_state.specs.declared.kept_registrant.RegistrantForm.TheVariants.{Bare, Full}

abbrev pub registrant_in : RegistrantForm → Registrant
registrant_in (Bare queue name) = record { queue = queue.0; name = name; last = None }
registrant_in (Full one) =
    record { queue = one.value.queue.0; name = one.value.name; last = Some one.value.last }
