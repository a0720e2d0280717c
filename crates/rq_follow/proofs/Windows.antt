-- A window that is begun, made shorter, and added to.
use Rattle.std.proofs.Common.{◌≡◌, ℕ, ◌+◌, ◌-◌, ◌<◌, ◌≤◌, List, ◌++◌, length, take, drop, sym, ap, subst, ◌∙◌}
use Rattle.std.proofs.Common.{append_assoc, arith}
use Rattle.std.proofs.lemmas.List.{drop-append-le, drop_at, drop-drop, length-append, length-drop, length-take}
use Rattle.std.proofs.lemmas.List.{take-append-le, take_at}
use Rattle.rq_model.specs.Records.{Record}
use Rattle.rq_model.specs.Frames.{before, frames_of, log_limit}
use Rattle.rq_model.specs.Fronts.{Why}
use Rattle.rq_front.specs.Chains.{IsHeaded}
use Rattle.rq_judged.specs.Windows.{Origin}
use Rattle.rq_judged.proofs.Passes.{part_more}
use Rattle.rq_judged.specs.Views.{why_of}
use Rattle.rq_judged.specs.declared.ends.Why as declared
use Rattle.rq_follow.specs.declared.pass.MachinePass.{MachinePass}
use Rattle.rq_follow.specs.Passes.{FindsWhy, HasDoneAll, HasComeBehind, StandsInWindow}

-- where the place stands
pub has_place : (o : Origin) (x : List ℕ) (f : MachinePass) → HasComeBehind o x f
    → (40 ≤ f.place) × (f.place ≤ length f.window.items) × (length f.window.items ≤ f.total) × (f.total ≤ log_limit)
    × IsHeaded f.window.items
has_place o x f (rs, rest, at) = (at.after, at.within, at.small, at.short, (o.version, at.header))

-- what is fed is passed
pub passed : (o : Origin) (x : List ℕ) (f : MachinePass) (why : Why) → FindsWhy o x f why → HasComeBehind o x f
passed o x f why (rs, rest, at, ends) = (rs, rest, at)

-- it knows why no record follows
pub told : (o : Origin) (x : List ℕ) (f : MachinePass) (v : declared.Why) → FindsWhy o x f (why_of v)
    → HasDoneAll o x (record f { why = v })
told o x f v (rs, rest, at, ends) = (
  rs,
  rest,
  record {
    begins = at.begins;
    rules = at.rules;
    machine = at.machine;
    count = at.count;
    total = at.total;
    short = at.short;
    small = at.small;
    header = at.header;
    after = at.after;
    within = at.within;
    link = at.link;
    waits = at.waits;
  },
  ends,
)

-- A window without the frames that were passed.
module _ (o : Origin) (x : List ℕ) (f g : MachinePass) (far : 72 < f.place)
    (same : g ≡ record f { window = g.window; place = 72 })
    (is : g.window.items ≡ take 40 f.window.items ++ drop (f.place - 32) f.window.items) where
  abbrev w : List ℕ
  w = f.window.items

  abbrev tail : List ℕ
  tail = drop (f.place - 32) w

  abbrev cut_pass : MachinePass
  cut_pass = record f { window = g.window; place = 72 }

  shorter_at : (rs : List Record) (rest : List ℕ) → StandsInWindow o x rs rest f → StandsInWindow o x rs rest cut_pass
  shorter_at rs rest at =
      let head : List ℕ = take 40 w in
      let forty : length head ≡ 40 = omega (arith, length-take 40 w, at.within, far) in
      let size : length tail ≡ length w - (f.place - 32) = length-drop (f.place - 32) w in
      let behind : drop 40 g.window.items ≡ tail = ap (drop 40) is ∙ drop_at head tail 40 forty in
      let long : length g.window.items ≡ 40 + length tail =
      omega (arith, ap length is, length-append head tail, forty) in
      let after : drop 72 g.window.items ≡ drop f.place w =
      sym (drop-drop 32 40 g.window.items) ∙ ap (drop 32) behind ∙ drop-drop 32 (f.place - 32) w
      ∙ ap (λ (n : ℕ). drop n w) (omega (arith, far)) in
      record {
        begins = at.begins;
        rules = at.rules;
        machine = at.machine;
        count = at.count;
        total = at.total;
        short = at.short;
        small = omega (arith, long, size, at.small, at.within, far);
        header = ap (take 40) is ∙ take_at head tail 40 forty ∙ at.header;
        after = omega arith;
        within = omega (arith, long, size, at.within, far);
        link = ap (take 32) behind ∙ at.link;
        waits = after ∙ at.waits;
      }

  pub shorter : (why : Why) → FindsWhy o x f why → FindsWhy o x g why
  shorter why (rs, rest, at, ends) =
      (rs, rest, subst (StandsInWindow o x rs rest) (sym same) (shorter_at rs rest at), ends)

-- A window that is added to.
pub added : (o : Origin) (x more : List ℕ) (f g : MachinePass) (n : ℕ) → n ≡ f.total + length more → n ≤ log_limit
    → g ≡ record f { window = g.window; total = n } → g.window.items ≡ f.window.items ++ more
    → HasComeBehind o x f → HasComeBehind o (x ++ more) g
added o x more f g n is short same window (rs, rest, at) =
    let w = f.window.items in
    let long : length g.window.items ≡ length w + length more =
    omega (arith, ap length window, length-append w more) in (
      rs,
      rest ++ more,
      subst (StandsInWindow o (x ++ more) rs (rest ++ more)) (sym same) (record {
        begins = record {
          records = at.begins.records;
          lawful = at.begins.lawful;
          whole = ap (λ (z : List ℕ). z ++ more) at.begins.whole ∙ append_assoc (frames_of o.link rs) rest more;
        };
        rules = at.rules;
        machine = at.machine;
        count = at.count;
        total = omega (arith, is, at.total, length-append x more);
        short = short;
        small = omega (arith, at.small, is, long);
        header = ap (take 40) window ∙ take-append-le 40 w more (omega (arith, at.after, at.within)) ∙ at.header;
        after = at.after;
        within = omega (arith, at.within, long);
        link = ap (before f.place) window
            ∙ part_more w more (f.place - 32) 32 (omega (arith, at.after, at.within)) ∙ at.link;
        waits = ap (drop f.place) window ∙ drop-append-le f.place w more at.within
            ∙ ap (λ (z : List ℕ). z ++ more) at.waits;
      }),
    )
