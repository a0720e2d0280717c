-- A walk along the lengths, with the frames that it finds right, is the longest run.
use Rattle.std.proofs.Common.{◌≡◌, ℕ, zero, suc, ◌+◌, ◌-◌, ◌*◌, ◌≤◌, ◌<◌, List, [], ◌∷◌, ◌++◌, length, get_or, take}
use Rattle.std.proofs.Common.{drop, refl, sym, ap, subst, ◌∙◌, append_assoc, arith}
use Rattle.std.specs.Prelude.{All}
use Rattle.std.specs.List.{AllByRecursion}
use Rattle.std.proofs.lemmas.List.{length-drop, drop-drop, drop_at}
use Rattle.std.proofs.lemmas.List.Elements.{recursion_from_All, All-from_recursion}
use Rattle.rq_model.specs.Frames.{IsBodyLength, AreBodies, HasFrame, HasRightFrame, IsFrameRun, IsRest, Rest, stated}
use Rattle.rq_model.specs.Frames.{body_in, digest, frame, frames, last, before}
use Rattle.rq_model.specs.LogLaws.{RightIsFrame, RunStops}
use Rattle.rq_model.proofs.Runs.{frame_long}
use Rattle.rq_front.specs.Chains.{body_at, bodies_at, spans_from}
use Rattle.rq_front.specs.Walks.{IsWalk, IsRight, IsSpanOf}
use Rattle.rq_front.specs.declared.spans.Span.{Span}
use Rattle.rq_bytes.specs.Readers.{IsBytes}
use Rattle.rq_bytes.proofs.Single.{IsBytes-drop}

-- one more span
pub walk_more : (b : List ℕ) (at : ℕ) (spans : List Span) (end : ℕ) (s : Span) → IsWalk b at spans end
    → s.start ≡ end + 4 → s.len ≡ stated (drop end b) → HasFrame (drop end b)
    → IsWalk b at (spans ++ s ∷ []) (end + 36 + s.len)
walk_more b at [] end s h start size room = (
  start ∙ ap (λ n. n + 4) h,
  size ∙ ap (λ n. stated (drop n b)) h,
  subst (λ n. HasFrame (drop n b)) h room,
  ap (λ n. n + 36 + s.len) h,
)
walk_more b at (t ∷ ts) end s h start size room =
    (h.0, h.1, h.2, walk_more b (at + 36 + t.len) ts end s h.3 start size room)

-- a span lies within b
abbrev pub IsInside : List ℕ → Span → Type 0
IsInside b s = s.start + s.len ≤ length b

inside_each : (b : List ℕ) (at : ℕ) (spans : List Span) (end : ℕ) → at ≤ length b → IsWalk b at spans end
    → AllByRecursion (IsInside b) spans
inside_each b at [] end le h = tt
inside_each b at (s ∷ ss) end le h =
    let room : at + 36 + s.len ≤ length b = omega (arith, h.1, h.2.room, length-drop at b, le) in
    (omega (arith, h.0, room), inside_each b (at + 36 + s.len) ss end room h.3)

pub walk_inside : (b : List ℕ) (at : ℕ) (spans : List Span) (end : ℕ) → at ≤ length b → IsWalk b at spans end
    → All (IsInside b) spans
walk_inside b at spans end le h = All-from_recursion (IsInside b) spans (inside_each b at spans end le h)

-- what a walk with right digests gives
pub record Walked (b : List ℕ) (at : ℕ) (spans : List Span) (end : ℕ) : Type 0 where
  pub within : end ≤ length b
  pub fit : AreBodies (bodies_at b spans)
  pub whole : drop at b ≡ frames (before at b) (bodies_at b spans) ++ drop end b
  pub last_is : last (before at b) (bodies_at b spans) ≡ before end b
  pub are : spans ≡ spans_from at (bodies_at b spans)
  pub few : at + 37 * length spans ≤ end

-- the first frame of a walk, and what follows it
record Stepped (b : List ℕ) (at : ℕ) (s : Span) : Type 0 where
  body : body_at b s ≡ body_in (drop at b)
  size : length (body_at b s) ≡ s.len
  fits : IsBodyLength (length (body_at b s))
  whole : drop at b ≡ frame (before at b) (body_at b s) ++ drop (at + 36 + s.len) b
  sum : digest (before at b) (body_at b s) ≡ before (at + 36 + s.len) b

stepped : RightIsFrame → (b : List ℕ) (at : ℕ) (s : Span) → IsBytes b → s.start ≡ at + 4 → s.len ≡ stated (drop at b)
    → HasRightFrame (before at b) (drop at b) → Stepped b at s
stepped law b at s bytes start size right =
    let p = before at b in
    let here = drop at b in
    let n = stated here in
    let one_len : s.start + s.len - s.start ≡ n = omega (arith, size) in
    let body : body_at b s ≡ body_in here = ap (λ k. take k (drop s.start b)) one_len
    ∙ ap (λ k. take n (drop k b)) start ∙ ap (take n) (sym (drop-drop 4 at b)) in
    let framed = law p here (IsBytes-drop at b bytes) right in
    let long : length (body_at b s) ≡ s.len = ap length body ∙ framed.2 ∙ sym size in
    let behind : drop (36 + n) here ≡ framed.0 =
    ap (drop (36 + n)) framed.1 ∙ drop_at (frame p (body_in here)) framed.0 (36 + n)
    (frame_long p (body_in here) ∙ ap (λ k. 36 + k) framed.2) in
    let place : at + (36 + n) ≡ at + 36 + s.len = omega (arith, size) in
    let next : framed.0 ≡ drop (at + 36 + s.len) b = sym behind ∙ drop-drop (36 + n) at b ∙ ap (λ k. drop k b) place in
    let sum_place : at + (4 + n) ≡ at + 36 + s.len - 32 = omega (arith, size) in
    record {
      body = body;
      size = long;
      fits = subst IsBodyLength (sym (ap length body ∙ framed.2)) right.whole.in_range;
      whole = framed.1 ∙ ap (λ x. frame p x ++ framed.0) (sym body) ∙ ap (λ x. frame p (body_at b s) ++ x) next;
      sum = ap (digest p) body ∙ sym right.right ∙ ap (take 32) (drop-drop (4 + n) at b)
          ∙ ap (λ k. take 32 (drop k b)) sum_place;
    }

pub walked : RightIsFrame → (b : List ℕ) (at : ℕ) (spans : List Span) (end : ℕ) → IsBytes b → at ≤ length b
    → IsWalk b at spans end → AllByRecursion (IsRight b) spans → Walked b at spans end
walked law b at [] end bytes le h right = record {
  within = omega (arith, h);
  fit = tt;
  whole = ap (λ k. drop k b) (sym h);
  last_is = ap (λ k. before k b) (sym h);
  are = refl;
  few = omega (arith, h);
}
walked law b at (s ∷ ss) end bytes le h right =
    let place : s.start - 4 ≡ at = omega (arith, h.0) in
    let frame_right : HasRightFrame (before at b) (drop at b) =
    subst (λ k. HasRightFrame (before k b) (drop k b)) place right.0 in
    let one = stepped law b at s bytes h.0 h.1 frame_right in
    let body = body_at b s in
    let next = at + 36 + s.len in
    let room : next ≤ length b = omega (arith, h.1, h.2.room, length-drop at b, le) in
    let more = walked law b next ss end bytes room h.3 right.1 in
    let some : 1 ≤ s.len = omega (arith, h.1, h.2.in_range.0) in
    let span : s ≡ record { start = at + 4; len = length body } =
    ap (λ n. let t : Span = record { start = n; len = s.len } in t) h.0
    ∙ ap (λ n. let t : Span = record { start = at + 4; len = n } in t) (sym one.size) in
    record {
      within = more.within;
      fit = (one.fits, more.fit);
      whole = one.whole ∙ ap (λ x. frame (before at b) body ++ x) more.whole
          ∙ ap (λ p. frame (before at b) body ++ (frames p (bodies_at b ss) ++ drop end b)) (sym one.sum)
          ∙ sym (append_assoc (frame (before at b) body) (frames (digest (before at b) body) (bodies_at b ss))
          (drop end b));
      last_is = ap (λ p. last p (bodies_at b ss)) one.sum ∙ more.last_is;
      are = ap (λ (t : Span). t ∷ ss) span
          ∙ ap (λ (ts : List Span). record { start = at + 4; len = length body } ∷ ts) more.are
          ∙ ap (λ n. record { start = at + 4; len = length body } ∷ spans_from (at + 36 + n) (bodies_at b ss))
          (sym one.size);
      few = omega (arith, more.few, some);
    }

-- what `chain` returns for the spans, the end and what follows
pub record Found (b : List ℕ) (at : ℕ) (spans : List Span) (end : ℕ) (rest : Rest) : Type 0 where
  pub run : IsFrameRun b at (bodies_at b spans) end rest
  pub are : spans ≡ spans_from at (bodies_at b spans)
  pub inside : All (IsInside b) spans
  pub few : at + 37 * length spans ≤ length b

pub found : RightIsFrame → RunStops → (b : List ℕ) (at : ℕ) (spans : List Span) (end : ℕ) (rest : Rest) → IsBytes b
    → at ≤ length b
    → IsWalk b at spans end → All (IsRight b) spans → IsRest (before end b) (drop end b) rest
    → Found b at spans end rest
found law stops b at spans end rest bytes le walk right follows =
    let w = walked law b at spans end bytes le walk (recursion_from_All (IsRight b) spans right) in
    let here : IsRest (last (before at b) (bodies_at b spans)) (drop end b) rest =
    subst (λ p. IsRest p (drop end b) rest) (sym w.last_is) follows in
    record {
      run = record {
        within = w.within;
        run =
            stops (before at b) (drop at b) (drop end b) (bodies_at b spans) rest w.fit w.whole here;
        follows = here;
      };
      are = w.are;
      inside = walk_inside b at spans end le walk;
      few = omega (arith, w.few, w.within);
    }

-- each span of a walk is that of a frame
pub walk_spans : (b : List ℕ) (at : ℕ) (spans : List Span) (end : ℕ) → 32 ≤ at → IsWalk b at spans end
    → AllByRecursion (IsSpanOf b) spans
walk_spans b at [] end low h = tt
walk_spans b at (s ∷ ss) end low h =
    let here : at ≡ s.start - 4 = omega (arith, h.0) in (
      record {
        after = omega (arith, h.0);
        frame = subst (λ n. HasFrame (drop n b)) here h.2;
        size = h.1 ∙ ap (λ n. stated (drop n b)) here;
      },
      walk_spans b (at + 36 + s.len) ss end (omega arith) h.3,
    )

-- a walk, cut before one of its spans
pub record IsCut (b : List ℕ) (at : ℕ) (spans : List Span) (index : ℕ) (s : Span) : Type 0 where
  pub walk : IsWalk b at (take index spans) (s.start - 4)
  pub frame : HasFrame (drop (s.start - 4) b)

pub walk_cut : (b : List ℕ) (at : ℕ) (spans : List Span) (end index : ℕ) (d : Span) → IsWalk b at spans end
    → index < length spans
    → IsCut b at spans index (get_or spans index d)
walk_cut b at [] end index d h lt = absurd (omega arith)
walk_cut b at (s ∷ ss) end zero d h lt =
    let here : s.start - 4 ≡ at = omega (arith, h.0) in
    record { walk = here; frame = subst (λ n. HasFrame (drop n b)) (sym here) h.2 }
walk_cut b at (s ∷ ss) end (suc index) d h lt =
    let rest = walk_cut b (at + 36 + s.len) ss end index d h.3 (omega arith) in
    record { walk = (h.0, h.1, h.2, rest.walk); frame = rest.frame }
