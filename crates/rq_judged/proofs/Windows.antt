-- A pass over a window goes from frame to frame.
use Rattle.std.proofs.Common.{◌≡◌, ℕ, ◌+◌, ◌<◌, ◌≤◌, List, [], ◌∷◌, ◌++◌, length, drop, refl, sym, ap, subst, ◌∙◌}
use Rattle.std.proofs.Common.{append_assoc, arith, get_or, Option, None}
use Rattle.std.proofs.lemmas.List.{append-nil, drop_more, length-append, length-drop}
use Rattle.rq_model.specs.Records.{Record}
use Rattle.rq_model.specs.Spelling.{Spells, body_of}
use Rattle.rq_model.specs.Frames as frames
use Rattle.rq_model.specs.Frames.{HasRightFrame, IsBodyLength, IsRest, before, body_in, digest, frame, frames_of, last}
use Rattle.rq_model.specs.Frames.{last_of}
use Rattle.rq_model.specs.LogLaws.{FrameIsRight}
use Rattle.rq_model.specs.Machine.{run}
use Rattle.rq_model.specs.Fronts.{Form, Law}
use Rattle.rq_model.proofs.Longest.{frames_of_join, last_of_join}
use Rattle.rq_front.specs.declared.spans.Span.{Span}
use Rattle.rq_front.specs.Chains.{body_at, bodies_at, spans_from}
use Rattle.rq_catalog.specs.declared.judge.Judge.{Judge}
use Rattle.rq_catalog.specs.Judges.{StandsIn}
use Rattle.rq_catalog.proofs.Runs.{lawful_push, run_push}
use Rattle.rq_judged.specs.declared.front_pass.Verdict.{Verdict}
use Rattle.rq_judged.specs.declared.front_pass.Verdict.TheVariants.{Lawful, Unlawful, NoRecord}
use Rattle.rq_judged.specs.declared.ends.Why.{Why}
use Rattle.rq_judged.specs.declared.window.WindowPass.{WindowPass}
use Rattle.rq_judged.specs.Passes.{IsVerdict}
use Rattle.rq_judged.specs.Windows.{AreFramed, Origin, StandsAt, HasEnd, Waits}
use Rattle.rq_model.proofs.Runs.{frame_long}
use Rattle.rq_judged.proofs.Fronts.{next}
use Rattle.rq_judged.proofs.Readings.{each_push}
use Rattle.rq_judged.proofs.Starts.{last_there}

-- Where the first frame of a window stands, and that the others follow it.

-- the place behind the frame of a span
abbrev pub past : Span → ℕ
past span = span.start + span.len + 32

pub record IsNext (w : List ℕ) (place : ℕ) (span : Span) (n : ℕ) : Type 0 where
  pub fit : IsBodyLength (length (body_at w span))
  pub framed : drop place w ≡ frame (before place w) (body_at w span) ++ drop n w
  pub link : before n w ≡ digest (before place w) (body_at w span)
  pub within : n ≤ length w
  pub start : span.start ≡ place + 4
  pub long : n ≡ place + 36 + span.len

module _ (right : FrameIsRight) (w : List ℕ) (place : ℕ) (span : Span) (spans : List Span) (end : ℕ)
    (rest : frames.Rest) (h : AreFramed w place (span ∷ spans) end rest) where
  abbrev p : List ℕ
  p = before place w

  abbrev body : List ℕ
  body = body_at w span

  abbrev bodies : List (List ℕ)
  bodies = bodies_at w spans

  abbrev there : ℕ
  there = place + 36 + length body

  abbrev others : List ℕ
  others = frames.frames (digest p body) bodies ++ drop end w

  parts : drop place w ≡ frame p body ++ others
  parts = h.whole ∙ append_assoc (frame p body) (frames.frames (digest p body) bodies) (drop end w)

  after : drop there w ≡ others
  after = next right w place p body bodies (drop end w) h.fit.0 h.whole

  first : span ≡ record { start = place + 4; len = length body }
  first = ap (λ (ss : List Span). get_or ss 0 span) h.are

  spans_are : spans ≡ spans_from there bodies
  spans_are = ap (λ (ss : List Span). drop 1 ss) h.are

  inside : there ≤ length w
  inside = omega (
    arith,
    ap length parts,
    length-append (frame p body) others,
    frame_long p body,
    length-drop place w,
    h.within,
  )

  linked : before there w ≡ digest p body
  linked = last_there w place there (body ∷ []) h.after h.within
      (parts ∙ ap (λ (z : List ℕ). frame p body ++ z) (sym after) ∙ sym (append_assoc (frame p body) [] (drop there w)))
      (omega (arith, length-append (frame p body) [], frame_long p body))

  place_is : there ≡ past span
  place_is = omega (arith, ap (λ (s : Span). s.start) first, ap (λ (s : Span). s.len) first)

  is_next : IsNext w place span (past span)
  is_next = subst (IsNext w place span) place_is (record {
    fit = h.fit.0;
    framed = parts ∙ ap (λ (x : List ℕ). frame p body ++ x) (sym after);
    link = linked;
    within = inside;
    start = ap (λ (s : Span). s.start) first;
    long = omega (arith, ap (λ (s : Span). s.len) first);
  })

  others_framed : AreFramed w (past span) spans end rest
  others_framed = subst (λ (m : ℕ). AreFramed w m spans end rest) place_is (record {
    fit = h.fit.1;
    are = spans_are;
    whole = after ∙ ap (λ (q : List ℕ). frames.frames q bodies ++ drop end w) (sym linked);
    follows = subst (λ (q : List ℕ). IsRest (last q bodies) (drop end w) rest) (sym linked) h.follows;
    after = omega arith;
    within = inside;
  })

-- the frame behind so many, and the others
pub next_span : FrameIsRight → (w : List ℕ) (place : ℕ) (spans : List Span) (i : ℕ) (d : Span) (end : ℕ)
    (rest : frames.Rest) → i < length spans → AreFramed w place (drop i spans) end rest
    → IsNext w place (get_or spans i d) (past (get_or spans i d))
    × AreFramed w (past (get_or spans i d)) (drop (i + 1) spans) end rest
next_span right w place spans i d end rest lt h =
    let here = subst (λ (ss : List Span). AreFramed w place ss end rest) (drop_more spans i d lt) h in
    (is_next right w place _ _ end rest here, others_framed right w place _ _ end rest here)

-- behind all of them
pub none_left : (w : List ℕ) (place end : ℕ) (rest : frames.Rest) → AreFramed w place [] end rest
    → IsRest (before place w) (drop place w) rest
none_left w place end rest h =
    subst (λ (x : List ℕ). IsRest (before place w) x rest) (sym h.whole) h.follows

-- What waits, as long as no reason stays.

pub waiting : (o : Origin) (rs : List Record) (rest : List ℕ) (f : WindowPass) → f.ended ≡ None
    → Waits o rs rest f f.ended → drop f.place f.window.items ≡ rest
waiting o rs rest f none h = subst (Waits o rs rest f) none h

-- It stands where it stood.

module _ (o : Origin) (x : List ℕ) (rs : List Record) (rest : List ℕ) (f : WindowPass) (j : Judge) (u e : ℕ)
    (y : Option Why) where
  abbrev told : WindowPass
  told = record f { judge = j; used = u; enough = e; ended = y }

  pub alike : StandsAt o x rs rest f → StandsIn o.version j (run o.base rs) → Waits o rs rest told y
      → StandsAt o x rs rest told
  alike at judge waits = record {
    begins = at.begins;
    judge = judge;
    count = at.count;
    total = at.total;
    short = at.short;
    small = at.small;
    header = at.header;
    after = at.after;
    within = at.within;
    link = at.link;
    waits = waits;
  }

-- so does the judge
pub same_place : (o : Origin) (x : List ℕ) (rs : List Record) (rest : List ℕ) (f : WindowPass) (j : Judge)
    → f.ended ≡ None → StandsAt o x rs rest f → StandsIn o.version j (run o.base rs)
    → StandsAt o x rs rest (record f { judge = j })
same_place o x rs rest f j going at judge = alike o x rs rest f j f.used f.enough f.ended at judge
    (subst (Waits o rs rest (record f { judge = j })) (sym going) (waiting o rs rest f going at.waits))

-- One frame more.

-- a frame that a pass comes to, and what the judge makes of its body
pub record Meets (o : Origin) (x : List ℕ) (f : WindowPass) (span : Span) (j : Judge) (v : Verdict) : Type 0 where
  pub rs : List Record
  pub rest : List ℕ
  pub at : StandsAt o x rs rest f
  pub next : IsNext f.window.items f.place span (past span)
  pub verdict : IsVerdict o.version (run o.base rs) (body_at f.window.items span) j v

module _ (right : FrameIsRight) (o : Origin) (x : List ℕ) (rs : List Record) (rest : List ℕ) (f : WindowPass)
    (h : StandsAt o x rs rest f) (going : f.ended ≡ None) (span : Span)
    (at : IsNext f.window.items f.place span (past span)) (j : Judge) where
  abbrev w : List ℕ
  w = f.window.items

  abbrev n : ℕ
  n = past span

  abbrev q : List ℕ
  q = last_of o.link rs

  stands_before : rest ≡ frame q (body_at w span) ++ drop n w
  stands_before = sym (waiting o rs rest f going h.waits) ∙ at.framed
      ∙ ap (λ (p : List ℕ). frame p (body_at w span) ++ drop n w) h.link

  pub one_frame : (v : IsVerdict o.version (run o.base rs) (body_at w span) j Lawful)
      → StandsAt o x (rs ++ v.0 ∷ []) (drop n w)
      (record f { judge = j; records = f.records + 1; place = n })
  one_frame v =
      let r = v.0 in
      let body : body_at w span ≡ body_of r = v.1.1 in
      let one : List ℕ = frames_of q (r ∷ []) in
      let alone : frame q (body_at w span) ≡ one = ap (frame q) body ∙ sym (append-nil (frame q (body_of r))) in
      let g : WindowPass = record f { judge = j; records = f.records + 1; place = n } in
      record {
        begins = record {
          records = each_push o.version rs r h.begins.records v.1.0;
          lawful = lawful_push o.version o.base rs r h.begins.lawful v.2;
          whole = h.begins.whole ∙ ap (λ (z : List ℕ). frames_of o.link rs ++ z) stands_before
              ∙ ap (λ (z : List ℕ). frames_of o.link rs ++ (z ++ drop n w)) alone
              ∙ sym (append_assoc (frames_of o.link rs) one (drop n w))
              ∙ ap (λ (z : List ℕ). z ++ drop n w) (sym (frames_of_join o.link rs (r ∷ [])));
        };
        judge = subst (StandsIn o.version j) (sym (run_push o.base rs r)) v.3;
        count = omega (arith, h.count, length-append rs (r ∷ []));
        total = h.total;
        short = h.short;
        small = h.small;
        header = h.header;
        after = omega (arith, h.after, at.long);
        within = at.within;
        link = at.link ∙ ap (λ (p : List ℕ). digest p (body_at w span)) h.link ∙ ap (digest q) body
            ∙ sym (last_of_join o.link rs (r ∷ []));
        waits = subst (Waits o (rs ++ r ∷ []) (drop n w) g) (sym going) refl;
      }

  right_there : HasRightFrame q rest × (body_in rest ≡ body_at w span)
  right_there =
      let it = right q (body_at w span) (drop n w) at.fit in (
        subst (HasRightFrame q) (sym stands_before) it.0,
        ap body_in stands_before ∙ it.1,
      )

  pub stops_at_law : IsVerdict o.version (run o.base rs) (body_at w span) j Unlawful
      → HasEnd o x (record f { judge = j }) Law
  stops_at_law v = (
    rs,
    rest,
    same_place o x rs rest f j going h v.0,
    (right_there.0, v.1, subst (Spells o.version v.1) (sym right_there.1) v.2, v.3),
  )

  pub stops_at_form : IsVerdict o.version (run o.base rs) (body_at w span) j NoRecord
      → HasEnd o x (record f { judge = j }) Form
  stops_at_form v = (
    rs,
    rest,
    same_place o x rs rest f j going h v.0,
    (right_there.0, λ r spells. v.1 r (subst (Spells o.version r) right_there.1 spells)),
  )
