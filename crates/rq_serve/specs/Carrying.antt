-- When a log is carried on by itself.
use Rattle.std.specs.Prelude.{ℕ, Bool, ◌&&◌, nat_le, ◌+◌, ◌-◌, ◌/◌}
use Rattle.rq_serve.specs.declared.operators.CarryPoint.{CarryPoint}

-- a log of so many bytes is to be carried on: it has as many as were asked for, twice as many as it began with,
-- and as many as it was put off to
abbrev pub is_due : CarryPoint → ℕ → Bool
is_due point len = nat_le point.least len && nat_le point.begins (len / 2) && nat_le point.not_before len

-- when it has at least so many bytes, and began with so many
abbrev pub first_point : ℕ → ℕ → CarryPoint
first_point least begins = record { least = least; begins = begins; not_before = 0 }

-- it was carried on, and begins with so many bytes
abbrev pub carried_anew : CarryPoint → ℕ → CarryPoint
carried_anew point begins = record { least = point.least; begins = begins; not_before = 0 }

-- it was not, at so many bytes: more than a tenth of those that are left must come first
abbrev pub put_off : CarryPoint → ℕ → CarryPoint
put_off point len = record {
  least = point.least;
  begins = point.begins;
  not_before = len + ((4294967295 - len) / 10 + 1);
}
