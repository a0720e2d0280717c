-- What is told of the bytes that came, and on what a manager goes on.
use Rattle.std.proofs.Common.{◌≡◌, ℕ, ◌+◌, ◌-◌, ◌<◌, List, ◌++◌, length, take, drop, refl, sym, ap, ◌∙◌}
use Rattle.std.proofs.Common.{append_assoc, arith, inl, inr}
use Rattle.std.specs.Prelude.{Ok, Some, None}
use Rattle.std.proofs.lemmas.List.{drop-drop, drop_at, length-append, length-take, take-append-drop}
use Rattle.rq_model.specs.Records.{Record}
use Rattle.rq_model.specs.Frames.{before, frames_of, header, start}
use Rattle.rq_model.specs.LogLaws.{FrontStops}
use Rattle.rq_model.specs.Carrying.{IsNoLog, ReadsAsLog, carried_header}
use Rattle.rq_front.specs.Chains.{IsCarried}
use Rattle.rq_judged.specs.declared.ends.Edge.{Edge}
use Rattle.rq_judged.specs.Windows.{Origin, log_origin}
use Rattle.rq_restart.specs.declared.redone.RedoneFront.{RedoneFront}
use Rattle.rq_follow.specs.declared.pass.MachinePass.{MachinePass}
use Rattle.rq_follow.specs.Passes.{IsRedoneOf, StandsInWindow}
use Rattle.rq_follow.specs.Followers.{EndsBytes, IsCarriedAlong, IsLinked, IsPlain, TellsBehind, carried_origin}
use Rattle.rq_follow.proofs.Beginnings.{carried_long, carried_total, plain_total}
use Rattle.rq_follow.proofs.Fronts.{carried_answers, headed, linked_answers, plain_answers, read_so, short_answers, used_there}

-- Whether it is a carried file.

pub plain_apart : IsNoLog → (b : List ℕ) (f : MachinePass) → IsPlain b f → IsCarried b → ⊥
plain_apart apart b f is it = apart.headed it.0 is.version b it.1 (headed b f is)

pub short_apart : (b : List ℕ) → length b < 40 → IsCarried b → ⊥
short_apart b few it = omega (arith, few, ap length it.1, length-take 40 b, carried_long it.0)

pub linked_carried : (b w : List ℕ) → IsLinked b w → IsCarried b
linked_carried b w it = (it.is.version, it.is.header)

pub carried_carried : ReadsAsLog → (b : List ℕ) (f : MachinePass) → IsCarriedAlong b f → IsCarried b
carried_carried reads b f is = (is.version, (read_so reads b is.version is.link is.bytes is.whole is.long).carried)

-- The front that a pass came behind.
module _ (f : MachinePass) (e : Edge) (used : e.used ≡ f.total - (length f.window.items - f.place))
    (records : e.records ≡ f.records) (why : e.why ≡ f.why) where
  abbrev pub front_there : RedoneFront
  front_there = record { version = f.version; state = f.machine; last = before f.place f.window.items; end = e }

  pub done_there : IsRedoneOf f front_there
  done_there = record {
    version = refl;
    state = refl;
    last = refl;
    used = used;
    records = records;
    why = why;
  }

  pub plain_ends : FrontStops → IsNoLog → (b : List ℕ) → IsPlain b f → EndsBytes b (Some e)
  plain_ends stops apart b is = (front_there, plain_answers stops apart b f (Ok front_there) is done_there tt, refl)

  pub carried_ends : FrontStops → ReadsAsLog → (b : List ℕ) → IsCarriedAlong b f → EndsBytes b (Some e)
  carried_ends stops reads b is = (front_there, carried_answers stops reads b f (Ok front_there) is done_there tt, refl)

pub short_ends : (b : List ℕ) → length b < 40 → EndsBytes b None
short_ends b few = inl (short_answers b few)

pub linked_ends : ReadsAsLog → (b w : List ℕ) → IsLinked b w → EndsBytes b None
linked_ends reads b w it = inr (linked_answers reads b w it)

-- What follows it.

abbrev end_of : MachinePass → Edge
end_of f = record { used = f.total - (length f.window.items - f.place); records = f.records; why = f.why }

told_there : (o : Origin) (x : List ℕ) (rs : List Record) (rest : List ℕ) (f : MachinePass) → StandsInWindow o x rs rest f
    → drop (f.place - 32) f.window.items ≡ before f.place f.window.items ++ rest
told_there o x rs rest f at =
    let w = f.window.items in
    let behind : List ℕ = drop (f.place - 32) w in
    sym (take-append-drop 32 behind)
    ∙ ap (λ (z : List ℕ). take 32 behind ++ z) (drop-drop 32 (f.place - 32) w
    ∙ ap (λ (n : ℕ). drop n w) (omega (arith, at.after)) ∙ at.waits)

-- what follows so many bytes
rest_is : (b front rest : List ℕ) (used : ℕ) → b ≡ front ++ rest → used + length rest ≡ length b → rest ≡ drop used b
rest_is b front rest used whole counted =
    let same : used ≡ length front = omega (arith, counted, ap length whole, length-append front rest) in
    sym (ap (drop used) whole ∙ drop_at front rest used (sym same))

module _ (f : MachinePass) where
  abbrev e : Edge
  e = end_of f

  abbrev r : RedoneFront
  r = front_there f e refl refl refl

  pub plain_behind : FrontStops → IsNoLog → (b : List ℕ) → IsPlain b f
      → TellsBehind b (drop (f.place - 32) f.window.items)
  plain_behind stops apart b is =
      let (rs, rest, at, ends) = is.fed in
      let o = log_origin is.version in
      let fs : List ℕ = frames_of (start is.version) rs in
      let whole : b ≡ (header is.version ++ fs) ++ rest =
      is.whole ∙ ap (λ (z : List ℕ). header is.version ++ z) at.begins.whole
      ∙ sym (append_assoc (header is.version) fs rest) in
      let counted = used_there o is.bytes rs rest f r at (done_there f e refl refl refl) in
      inl (
        r,
        plain_answers stops apart b f (Ok r) is (done_there f e refl refl refl) tt,
        told_there o is.bytes rs rest f at
            ∙ ap (λ (z : List ℕ). r.last ++ z)
            (rest_is b (header is.version ++ fs) rest e.used whole (counted ∙ plain_total b f is)),
      )

  pub carried_behind : FrontStops → ReadsAsLog → (b : List ℕ) → IsCarriedAlong b f
      → TellsBehind b (drop (f.place - 32) f.window.items)
  carried_behind stops reads b is =
      let (rs, rest, at, ends) = is.fed in
      let o = carried_origin is.version is.base is.link in
      let head : List ℕ = carried_header is.version in
      let fs : List ℕ = frames_of is.link rs in
      let whole : b ≡ (head ++ (is.link ++ fs)) ++ rest =
      is.whole ∙ ap (λ (z : List ℕ). head ++ (is.link ++ z)) at.begins.whole
      ∙ ap (λ (z : List ℕ). head ++ z) (sym (append_assoc is.link fs rest))
      ∙ sym (append_assoc head (is.link ++ fs) rest) in
      let counted = used_there o is.bytes rs rest f r at (done_there f e refl refl refl) in
      inl (
        r,
        carried_answers stops reads b f (Ok r) is (done_there f e refl refl refl) tt,
        told_there o is.bytes rs rest f at
            ∙ ap (λ (z : List ℕ). r.last ++ z)
            (rest_is b (head ++ (is.link ++ fs)) rest e.used whole (counted ∙ carried_total b f is)),
      )
