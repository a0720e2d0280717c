-- A window that is looked at, made shorter, and added to; and a header that comes in parts.
use Rattle.std.proofs.Common.{◌≡◌, ℕ, ◌+◌, ◌-◌, ◌<◌, ◌≤◌, List, [], ◌++◌, length, take, drop, refl, sym, ap, subst, ◌∙◌}
use Rattle.std.proofs.Common.{append_assoc, arith, Option, Some, None}
use Rattle.std.proofs.lemmas.List.{drop-append-le, drop_all, drop_at, drop-drop, length-append, length-drop}
use Rattle.std.proofs.lemmas.List.{length-take, take-append-le, take_all, take_at, take-append-drop, take-take}
use Rattle.std.specs.Prelude.{Result, Ok, Err, IfErr, IfOk}
use Rattle.rq_model.specs.Records.{Record, Version}
use Rattle.rq_model.specs.Frames as frames
use Rattle.rq_model.specs.Frames.{HasHeader, IsFrameRun, IsRest, before, frames_of, header, last_of, log_limit, log_of}
use Rattle.rq_model.specs.Frames.{start}
use Rattle.rq_model.specs.LogLaws.{FrontStops, LogEnds}
use Rattle.rq_model.specs.States.{empty}
use Rattle.rq_model.specs.Machine.{run}
use Rattle.rq_model.specs.Fronts.{IsLongest, IsWhy, Why, Ends}
use Rattle.rq_model.proofs.Restarts.{frames_many, header_long}
use Rattle.rq_front.specs.declared.spans.Span.{Span}
use Rattle.rq_front.specs.Chains.{IsHeaded, bodies_at, spans_from, Refused}
use Rattle.rq_catalog.specs.declared.judge.Judge.{Judge}
use Rattle.rq_catalog.specs.Judges.{KeepsStanding, StandsIn}
use Rattle.rq_judged.specs.Views.{why_of}
use Rattle.rq_judged.specs.Passes.{stays}
use Rattle.rq_judged.specs.declared.ends.Why as declared
use Rattle.rq_judged.specs.declared.window.WindowPass.{WindowPass}
use Rattle.rq_judged.specs.declared.judged.JudgedFront.{JudgedFront}
use Rattle.rq_judged.specs.JudgedFronts.{IsJudged, JudgesFront}
use Rattle.rq_judged.specs.Windows.{AreFramed, IsFed, IsStopped, IsStoppedFront, IsLasting, Origin, StandsAt, HasEnd}
use Rattle.rq_judged.specs.Windows.{Waits, log_origin, RefusesPiece}
use Rattle.rq_judged.proofs.Passes.{part_more, why_more}
use Rattle.rq_judged.proofs.Starts.{started}
use Rattle.rq_judged.proofs.Windows.{alike, none_left, same_place, waiting}
use Rattle.rq_record.specs.declared.fault.Fault.{Fault}
use Rattle.rq_record.specs.declared.fault.Fault.TheVariants as faults
use Rattle.rq_judged.specs.GrowingFronts.{RefusesMore}

-- the frames that a chain finds
pub framed : (w : List ℕ) (place : ℕ) (spans : List Span) (end : ℕ) (rest : frames.Rest)
    → 40 ≤ place → place ≤ length w → IsFrameRun w place (bodies_at w spans) end rest
    → spans ≡ spans_from place (bodies_at w spans) → AreFramed w place spans end rest
framed w place spans end rest after within walked is = record {
  fit = walked.run.fit;
  are = is;
  whole = walked.run.whole;
  follows = walked.follows;
  after = omega (arith, after);
  within = within;
}

-- behind all of them it stops for the reason that follows
pub stops_behind : (o : Origin) (x : List ℕ) (f : WindowPass) (end : ℕ) (rest : frames.Rest) (why : Why)
    → f.ended ≡ None → AreFramed f.window.items f.place [] end rest → why ≡ Ends rest → IsFed o x f
    → HasEnd o x f why
stops_behind o x f end rest why going h is (rs, left, at) =
    let w = f.window.items in
    let there : IsRest (before f.place w) left rest =
    subst (λ (z : List ℕ). IsRest (before f.place w) z rest) (waiting o rs left f going at.waits)
    (none_left w f.place end rest h) in (
      rs,
      left,
      at,
      subst (IsWhy o.version (run o.base rs) (last_of o.link rs) left) (sym is)
          (subst (λ (p : List ℕ). IsRest p left rest) at.link there),
    )

-- what is known of the end is kept if it stays
module _ (o : Origin) (x : List ℕ) (f : WindowPass) (why : Why) (y : Option declared.Why) (u e : ℕ)
    (going : f.ended ≡ None) (used : u ≡ f.total - (length f.window.items - f.place)) (lasts : IsLasting why y) where
  abbrev settled_pass : WindowPass
  settled_pass = record f { used = u; enough = e; ended = y }

  pub settled : HasEnd o x f why → IsStopped o x settled_pass why
  settled (rs, rest, at, ends) =
      let is : drop f.place f.window.items ≡ rest = waiting o rs rest f going at.waits in
      let counted : u + length rest ≡ f.total =
      omega (arith, used, ap length is, length-drop f.place f.window.items, at.within, at.small) in (
        rs,
        rest,
        alike o x rs rest f f.judge u e y at at.judge (kept rs rest is ends counted y lasts),
        ends,
        counted,
      )
    where
      kept : (rs : List Record) (rest : List ℕ) → drop f.place f.window.items ≡ rest
          → IsWhy o.version (run o.base rs) (last_of o.link rs) rest why → u + length rest ≡ f.total
          → (z : Option declared.Why) → IsLasting why z → Waits o rs rest settled_pass z
      kept rs rest is ends counted None lasts = is
      kept rs rest is ends counted (Some v) lasts = (
        subst (IsWhy o.version (run o.base rs) (last_of o.link rs) rest) (sym lasts.0) ends,
        ap stays lasts.0 ∙ lasts.1,
        counted,
      )

-- and is known from then on
pub known : (o : Origin) (x : List ℕ) (f : WindowPass) (why : declared.Why) → f.ended ≡ Some why → IsFed o x f
    → IsStopped o x f (why_of why)
known o x f why is (rs, rest, at) =
    let h = subst (Waits o rs rest f) is at.waits in (rs, rest, at, h.0, h.2)

-- A window without the frames that were passed.
module _ (o : Origin) (x : List ℕ) (f g : WindowPass) (far : 72 < f.place)
    (same : g ≡ record f { window = g.window; place = 72 })
    (is : g.window.items ≡ take 40 f.window.items ++ drop (f.place - 32) f.window.items) where
  abbrev w : List ℕ
  w = f.window.items

  abbrev tail : List ℕ
  tail = drop (f.place - 32) w

  abbrev cut_pass : WindowPass
  cut_pass = record f { window = g.window; place = 72 }

  shorter_at : (rs : List Record) (rest : List ℕ) → StandsAt o x rs rest f → StandsAt o x rs rest cut_pass
  shorter_at rs rest at =
      let head : List ℕ = take 40 w in
      let forty : length head ≡ 40 = omega (arith, length-take 40 w, at.within, far) in
      let size : length tail ≡ length w - (f.place - 32) = length-drop (f.place - 32) w in
      let behind : drop 40 g.window.items ≡ tail = ap (drop 40) is ∙ drop_at head tail 40 forty in
      let long : length g.window.items ≡ 40 + length tail =
      omega (arith, ap length is, length-append head tail, forty) in
      let linked : before 72 g.window.items ≡ last_of o.link rs = ap (take 32) behind ∙ at.link in
      let after : drop 72 g.window.items ≡ drop f.place w =
      sym (drop-drop 32 40 g.window.items) ∙ ap (drop 32) behind ∙ drop-drop 32 (f.place - 32) w
      ∙ ap (λ (n : ℕ). drop n w) (omega (arith, far)) in
      record {
        begins = at.begins;
        judge = at.judge;
        count = at.count;
        total = at.total;
        short = at.short;
        small = omega (arith, long, size, at.small, at.within, far);
        header = ap (take 40) is ∙ take_at head tail 40 forty ∙ at.header;
        after = omega arith;
        within = omega (arith, long, size, at.within, far);
        link = linked;
        waits = by rs rest after f.ended at.waits;
      }
    where
      by : (rs : List Record) (rest : List ℕ) → drop 72 g.window.items ≡ drop f.place w
          → (y : Option declared.Why) → Waits o rs rest f y → Waits o rs rest cut_pass y
      by rs rest after None h = after ∙ h
      by rs rest after (Some why) h = h

  pub shorter : IsFed o x f → IsFed o x g
  shorter (rs, rest, at) = (rs, rest, subst (StandsAt o x rs rest) (sym same) (shorter_at rs rest at))

-- A window that is added to.
module _ (o : Origin) (x more : List ℕ) (f : WindowPass) (n : ℕ) (is : n ≡ f.total + length more)
    (short : n ≤ log_limit) where
  grown : (g : WindowPass) (rs : List Record) (rest : List ℕ) → StandsAt o x rs rest f
      → take 40 g.window.items ≡ take 40 f.window.items
      → before f.place g.window.items ≡ before f.place f.window.items → f.place ≤ length g.window.items
      → length g.window.items ≤ n → Waits o rs (rest ++ more) (record f { window = g.window; total = n }) f.ended
      → StandsAt o (x ++ more) rs (rest ++ more) (record f { window = g.window; total = n })
  grown g rs rest at head linked within small waits = record {
    begins = record {
      records = at.begins.records;
      lawful = at.begins.lawful;
      whole = ap (λ (z : List ℕ). z ++ more) at.begins.whole ∙ append_assoc (frames_of o.link rs) rest more;
    };
    judge = at.judge;
    count = at.count;
    total = omega (arith, is, at.total, length-append x more);
    short = short;
    small = small;
    header = head ∙ at.header;
    after = at.after;
    within = within;
    link = linked ∙ at.link;
    waits = waits;
  }

  -- where the reason stays, it is counted alone
  pub counted : (why : declared.Why) → f.ended ≡ Some why → IsFed o x f
      → IsFed o (x ++ more) (record f { total = n })
  counted why ended (rs, rest, at) =
      let g : WindowPass = record f { total = n } in
      let h = subst (Waits o rs rest f) ended at.waits in
      let waits : Waits o rs (rest ++ more) g (Some why) = (
        why_more o.version (run o.base rs) (last_of o.link rs) rest more (why_of why) h.1 h.0,
        h.1,
        omega (arith, h.2, is, length-append rest more),
      ) in (
        rs,
        rest ++ more,
        grown f rs rest at refl refl at.within (omega (arith, at.small, is))
            (subst (Waits o rs (rest ++ more) g) (sym ended) waits),
      )

  -- else it waits
  pub added : (g : WindowPass) → g ≡ record f { window = g.window; total = n }
      → g.window.items ≡ f.window.items ++ more → f.ended ≡ None → IsFed o x f → IsFed o (x ++ more) g
  added g same window none (rs, rest, at) =
      let w = f.window.items in
      let k : WindowPass = record f { window = g.window; total = n } in
      let long : length g.window.items ≡ length w + length more =
      omega (arith, ap length window, length-append w more) in
      let left : drop f.place g.window.items ≡ rest ++ more =
      ap (drop f.place) window ∙ drop-append-le f.place w more at.within
      ∙ ap (λ (z : List ℕ). z ++ more) (waiting o rs rest f none at.waits) in (
        rs,
        rest ++ more,
        subst (StandsAt o (x ++ more) rs (rest ++ more)) (sym same) (grown g rs rest at
            (ap (take 40) window ∙ take-append-le 40 w more (omega (arith, at.after, at.within)))
            (ap (before f.place) window
            ∙ part_more w more (f.place - 32) 32 (omega (arith, at.after, at.within)))
            (omega (arith, at.within, long)) (omega (arith, at.small, is, long))
            (subst (Waits o rs (rest ++ more) k) (sym none) left)),
      )

-- the judge stands where it stood
pub same_judge : (o : Origin) (x : List ℕ) (f : WindowPass) (j : Judge) → KeepsStanding f.judge j → f.ended ≡ None
    → IsFed o x f → IsFed o x (record f { judge = j })
same_judge o x f j keeps going (rs, rest, at) =
    (rs, rest, same_place o x rs rest f j going at (keeps o.version (run o.base rs) at.judge))

-- it has no more records than bytes
pub few_records : (o : Origin) (x : List ℕ) (f : WindowPass) → IsFed o x f → f.records ≤ log_limit
few_records o x f (rs, rest, at) = omega (
  arith,
  at.count,
  frames_many o.link rs,
  ap length at.begins.whole,
  length-append (frames_of o.link rs) rest,
  at.total,
  at.short,
)

-- two that go along with the same bytes have counted as many
pub same_total : (o : Origin) (x : List ℕ) (f g : WindowPass) → IsFed o x f → IsFed o x g → f.total ≡ g.total
same_total o x f g (rs, rest, at) (qs, left, there) = at.total ∙ sym there.total

-- where the place stands
pub has_place : (o : Origin) (x : List ℕ) (f : WindowPass) → IsFed o x f
    → (40 ≤ f.place) × (f.place ≤ length f.window.items) × (length f.window.items ≤ f.total) × (f.total ≤ log_limit)
    × IsHeaded f.window.items
has_place o x f (rs, rest, at) = (at.after, at.within, at.small, at.short, (o.version, at.header))

-- A window that begins: the header alone.
pub window_starts : (version : Version) → LogEnds → (f : WindowPass) → f.window.items ≡ header version → f.place ≡ 40
    → f.total ≡ 40 → f.records ≡ 0 → f.ended ≡ None → StandsIn version f.judge empty → IsFed (log_origin version) [] f
window_starts version ends f is place total none going judge =
    let o = log_origin version in
    let long = header_long version in
    let w = f.window.items in
    let size : length w ≡ 40 = ap length is ∙ long in
    let head : HasHeader version w = take_all 40 w (omega (arith, size)) ∙ is in
    let nothing : drop f.place w ≡ [] = ap (λ (n : ℕ). drop n w) place ∙ drop_all 40 w (omega (arith, size)) in (
      [],
      [],
      record {
        begins = record { records = tt; lawful = refl; whole = refl };
        judge = judge;
        count = none;
        total = total;
        short = omega (arith, total);
        small = omega (arith, size, total);
        header = head;
        after = omega (arith, place);
        within = omega (arith, size, place);
        link = ap (λ (n : ℕ). before n w) place ∙ (started version ends w head).chained;
        waits = subst (Waits o [] [] f) (sym going) nothing;
      },
    )

-- the front that is answered
pub stopped_front : (o : Origin) (x : List ℕ) (f : WindowPass) (why : declared.Why) (front : JudgedFront)
    → front.judge ≡ f.judge → front.last ≡ before f.place f.window.items → front.end.used ≡ f.used
    → front.end.records ≡ f.records → front.end.why ≡ why → IsStopped o x f (why_of why) → IsStoppedFront o x front
stopped_front o x f why front judge last used records is (rs, rest, at, ends, counted) = record {
  records = rs;
  rest = rest;
  begins = at.begins;
  ends = subst (λ (v : declared.Why). IsWhy o.version (run o.base rs) (last_of o.link rs) rest (why_of v)) (sym is)
      ends;
  used = omega (arith, used, counted, at.total);
  short = omega (arith, at.total, at.short);
  count = records ∙ at.count;
  last = last ∙ at.link;
  judge = subst (λ (j : Judge). StandsIn o.version j (run o.base rs)) (sym judge) at.judge;
}

-- is that of a log
pub judged_log : (version : Version) → FrontStops → (b x : List ℕ) (front : JudgedFront) → b ≡ header version ++ x
    → IsStoppedFront (log_origin version) x front → IsJudged b front
judged_log version stops b x front is h =
    let rs = h.records in
    let rest = h.rest in
    let p = start version in
    let log : List ℕ = log_of version rs in
    let whole : b ≡ log ++ rest = is ∙ ap (λ (z : List ℕ). header version ++ z) h.begins.whole
    ∙ sym (append_assoc (header version) (frames_of p rs) rest) in
    let long : length log ≡ 40 + length (frames_of p rs) =
    omega (arith, length-append (header version) (frames_of p rs), header_long version) in
    let used : front.end.used ≡ length log =
    omega (arith, long, h.used, ap length h.begins.whole, length-append (frames_of p rs) rest) in
    let left : rest ≡ drop front.end.used b = sym (ap (drop front.end.used) whole ∙ drop_at log rest front.end.used (sym used)) in
    record {
      version = version;
      records = rs;
      front = record {
        short = omega (arith, h.short, ap length is, length-append (header version) x, header_long version);
        bytes = x;
        whole = is;
        longest = subst (IsLongest version empty p x rs) left
            (stops version empty p x rest rs (why_of front.end.why) h.begins h.ends);
      };
      ends = subst (λ (z : List ℕ). IsWhy version (run empty rs) (last_of p rs) z (why_of front.end.why)) left h.ends;
      used = used;
      count = h.count;
      last = h.last;
      judge = h.judge;
    }

-- What follows of an answer.

pub anyway : {A E : Type 0} (P : Type 0) → P → (r : Result A E) → IfErr r (λ _. P)
anyway P p (Ok x) = tt
anyway P p (Err e) = p

module _ (a b : List ℕ) (few : length a < 40) (many : 40 ≤ length a + length b) where
  abbrev missing : ℕ
  missing = 40 - length a

  long : length (a ++ take missing b) ≡ 40
  long = omega (arith, few, many, length-append a (take missing b), length-take missing b)

  pub two_parts : a ++ b ≡ (a ++ take missing b) ++ drop missing b
  two_parts = ap (λ (z : List ℕ). a ++ z) (sym (take-append-drop missing b))
      ∙ sym (append_assoc a (take missing b) (drop missing b))

  pub first_forty : a ++ take missing b ≡ take 40 (a ++ b)
  first_forty = sym (ap (take 40) two_parts ∙ take_at (a ++ take missing b) (drop missing b) 40 long)

-- the first 40 bytes are a header if all begin with it
pub forty_again : (h z : List ℕ) → h ≡ take 40 z → take 40 h ≡ h
forty_again h z is = ap (take 40) is ∙ take-take 40 40 z (omega arith) ∙ sym is

-- fewer bytes are none
pub too_few : (b : List ℕ) → length b < 40 → IsHeaded b → ⊥
too_few b few (version, head) = omega (arith, few, ap length head, length-take 40 b, header_long version)

-- why a piece is not taken is why the bytes with it are not
pub refuses : (n : ℕ) (z : List ℕ) (e : Fault) → n ≡ length z → RefusesPiece n e → RefusesMore z e
refuses n z faults.TooLong is refused = omega (arith, is, refused)
refuses n z faults.Resources is refused = tt
refuses n z _ is refused = absurd refused

-- the front that is answered is that of the log
pub judges : (version : Version) → FrontStops → (b x : List ℕ) → b ≡ header version ++ x
    → (result : Result JudgedFront Fault) → IfOk result (λ front. IsStoppedFront (log_origin version) x front)
    → IfErr result (λ e. e ≡ faults.Resources) → JudgesFront b result
judges version stops b x is (Ok front) stopped refused = judged_log version stops b x front is stopped
judges version stops b x is (Err e) stopped refused = subst (λ (f : Fault). Refused b f) (sym refused) tt
