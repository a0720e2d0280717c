-- A machine goes from frame to frame of a window.
use Rattle.std.proofs.Common.{◌≡◌, ℕ, ◌+◌, ◌≤◌, List, [], ◌∷◌, ◌++◌, length, drop, refl, sym, ap, subst, ◌∙◌}
use Rattle.std.proofs.Common.{append_assoc, arith, false, true}
use Rattle.std.proofs.lemmas.List.{append-nil, length-append}
use Rattle.rq_model.specs.Records.{Record}
use Rattle.rq_model.specs.Spelling.{Spells, body_of}
use Rattle.rq_model.specs.Frames as frames
use Rattle.rq_model.specs.Frames.{HasRightFrame, IsRest, before, body_in, digest, frame, frames_of, last_of, log_limit}
use Rattle.rq_model.specs.LogLaws.{FrameIsRight}
use Rattle.rq_model.specs.States.{State}
use Rattle.rq_model.specs.Machine.{is_lawful, run, step}
use Rattle.rq_model.specs.Fronts.{Ends, Form, IsWhy, Law, Why}
use Rattle.rq_model.proofs.Longest.{frames_of_join, last_of_join}
use Rattle.rq_model.proofs.Restarts.{frames_many}
use Rattle.rq_front.specs.declared.spans.Span.{Span}
use Rattle.rq_front.specs.Chains.{body_at}
use Rattle.rq_catalog.proofs.Runs.{lawful_push, run_push}
use Rattle.rq_judged.specs.Windows.{AreFramed, Origin}
use Rattle.rq_judged.proofs.Readings.{each_push}
use Rattle.rq_judged.proofs.Windows.{IsNext, none_left, past}
use Rattle.rq_follow.specs.declared.pass.MachinePass.{MachinePass}
use Rattle.rq_follow.specs.declared.pass.Finding.{Finding}
use Rattle.rq_follow.specs.declared.pass.Finding.TheVariants.{Lawful, Unlawful, NoRecord}
use Rattle.rq_follow.specs.Passes.{FindsWhy, HasComeBehind, IsMadeOf, StandsInWindow}

-- The machine is in the same state.
pub same_place : (o : Origin) (x : List ℕ) (rs : List Record) (rest : List ℕ) (f : MachinePass) (t : State)
    → StandsInWindow o x rs rest f → t ≡ f.machine → StandsInWindow o x rs rest (record f { machine = t })
same_place o x rs rest f t at same = record {
  begins = at.begins;
  rules = at.rules;
  machine = same ∙ at.machine;
  count = at.count;
  total = at.total;
  short = at.short;
  small = at.small;
  header = at.header;
  after = at.after;
  within = at.within;
  link = at.link;
  waits = at.waits;
}

-- a frame that a pass comes to, and what the machine makes of its body
pub record Meets (o : Origin) (x : List ℕ) (f : MachinePass) (span : Span) (t : State) (v : Finding) : Type 0 where
  pub rs : List Record
  pub rest : List ℕ
  pub at : StandsInWindow o x rs rest f
  pub next : IsNext f.window.items f.place span (past span)
  pub verdict : IsMadeOf o.version f.machine (body_at f.window.items span) t v

module _ (right : FrameIsRight) (o : Origin) (x : List ℕ) (rs : List Record) (rest : List ℕ) (f : MachinePass)
    (h : StandsInWindow o x rs rest f) (span : Span) (at : IsNext f.window.items f.place span (past span)) (t : State) where
  abbrev w : List ℕ
  w = f.window.items

  abbrev n : ℕ
  n = past span

  abbrev q : List ℕ
  q = last_of o.link rs

  stands_before : rest ≡ frame q (body_at w span) ++ drop n w
  stands_before = sym h.waits ∙ at.framed ∙ ap (λ (p : List ℕ). frame p (body_at w span) ++ drop n w) h.link

  -- One frame more.
  pub one_frame : (v : IsMadeOf o.version f.machine (body_at w span) t Lawful)
      → StandsInWindow o x (rs ++ v.0 ∷ []) (drop n w)
      (record f { machine = t; records = f.records + 1; place = n })
  one_frame v =
      let r = v.0 in
      let body : body_at w span ≡ body_of r = v.1.1 in
      let one : List ℕ = frames_of q (r ∷ []) in
      let alone : frame q (body_at w span) ≡ one = ap (frame q) body ∙ sym (append-nil (frame q (body_of r))) in
      let lawful = subst (λ (s : State). is_lawful o.version s r ≡ true) h.machine v.2 in
      record {
        begins = record {
          records = each_push o.version rs r h.begins.records v.1.0;
          lawful = lawful_push o.version o.base rs r h.begins.lawful lawful;
          whole = h.begins.whole ∙ ap (λ (z : List ℕ). frames_of o.link rs ++ z) stands_before
              ∙ ap (λ (z : List ℕ). frames_of o.link rs ++ (z ++ drop n w)) alone
              ∙ sym (append_assoc (frames_of o.link rs) one (drop n w))
              ∙ ap (λ (z : List ℕ). z ++ drop n w) (sym (frames_of_join o.link rs (r ∷ [])));
        };
        rules = h.rules;
        machine = v.3 ∙ ap (λ (s : State). step s r) h.machine ∙ sym (run_push o.base rs r);
        count = omega (arith, h.count, length-append rs (r ∷ []));
        total = h.total;
        short = h.short;
        small = h.small;
        header = h.header;
        after = omega (arith, h.after, at.long);
        within = at.within;
        link = at.link ∙ ap (λ (p : List ℕ). digest p (body_at w span)) h.link ∙ ap (digest q) body
            ∙ sym (last_of_join o.link rs (r ∷ []));
        waits = refl;
      }

  right_there : HasRightFrame q rest × (body_in rest ≡ body_at w span)
  right_there =
      let it = right q (body_at w span) (drop n w) at.fit in (
        subst (HasRightFrame q) (sym stands_before) it.0,
        ap body_in stands_before ∙ it.1,
      )

  pub stops_at_law : IsMadeOf o.version f.machine (body_at w span) t Unlawful
      → FindsWhy o x (record f { machine = t }) Law
  stops_at_law v = (
    rs,
    rest,
    same_place o x rs rest f t h v.0,
    (
      right_there.0,
      v.1,
      subst (Spells o.version v.1) (sym right_there.1) v.2,
      subst (λ (s : State). is_lawful o.version s v.1 ≡ false) h.machine v.3,
    ),
  )

  pub stops_at_form : IsMadeOf o.version f.machine (body_at w span) t NoRecord
      → FindsWhy o x (record f { machine = t }) Form
  stops_at_form v = (
    rs,
    rest,
    same_place o x rs rest f t h v.0,
    (right_there.0, λ r spells. v.1 r (subst (Spells o.version r) right_there.1 spells)),
  )

-- behind all of them it stops for the reason that follows
pub stops_behind : (o : Origin) (x : List ℕ) (f : MachinePass) (end : ℕ) (rest : frames.Rest) (why : Why)
    → AreFramed f.window.items f.place [] end rest → why ≡ Ends rest → HasComeBehind o x f → FindsWhy o x f why
stops_behind o x f end rest why h is (rs, left, at) =
    let w = f.window.items in
    let there : IsRest (before f.place w) left rest =
    subst (λ (z : List ℕ). IsRest (before f.place w) z rest) at.waits (none_left w f.place end rest h) in (
      rs,
      left,
      at,
      subst (IsWhy o.version (run o.base rs) (last_of o.link rs) left) (sym is)
          (subst (λ (p : List ℕ). IsRest p left rest) at.link there),
    )

-- it has no more records than bytes
pub few_records : (o : Origin) (x : List ℕ) (f : MachinePass) → HasComeBehind o x f → f.records ≤ log_limit
few_records o x f (rs, rest, at) = omega (
  arith,
  at.count,
  frames_many o.link rs,
  ap length at.begins.whole,
  length-append (frames_of o.link rs) rest,
  at.total,
  at.short,
)
