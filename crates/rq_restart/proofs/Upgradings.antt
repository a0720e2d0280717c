-- The bodies of a log, framed anew, are the log in version 2.
use Rattle.std.proofs.Common.{◌≡◌, ℕ, suc, ◌+◌, ◌-◌, ◌≤◌, List, [], ◌∷◌, ◌++◌, length, take, drop, refl, sym, ap, subst}
use Rattle.std.proofs.Common.{◌∙◌, append_assoc, arith}
use Rattle.std.proofs.lemmas.List.{append-nil, drop-drop, drop-append-le, take_all, drop_at, length-take, length-drop}
use Rattle.std.proofs.lemmas.List.{length-map}
use Rattle.std.specs.Global.{Vec}
use Rattle.std.specs.Int.{w32, to_be_bytes}
use Rattle.std.specs.Prelude.{Result, Ok, Err, IfOk, IfErr}
use Rattle.sha2.specs.Sha256.{sha256}
use Rattle.rq_model.specs.Records.{Record, Version, Two}
use Rattle.rq_model.specs.Spelling.{body_of, IsRecord}
use Rattle.rq_model.specs.Frames.{log_limit, magic, start, header, digest, frame, frames, frames_of, log_of, bodies_of}
use Rattle.rq_model.specs.Frames.{before, stated, body_in, HasFrame, HasHeader, AreBodies}
use Rattle.rq_model.specs.LogLaws.{LogEnds}
use Rattle.rq_model.specs.States.{empty}
use Rattle.rq_model.specs.Fronts.{IsFront, Why}
use Rattle.rq_model.specs.Upgrading.{IsUpgraded}
use Rattle.rq_model.proofs.RecordReaders.{body_fits}
use Rattle.rq_model.proofs.Runs.{frame_reads, length-sha256, right_at}
use Rattle.rq_model.proofs.Lists.{each_map}
use Rattle.rq_model.proofs.Restarts.{header_long}
use Rattle.rq_record.specs.Views.{version_of}
use Rattle.rq_record.specs.declared.fault.Fault.{Fault}
use Rattle.rq_record.specs.declared.fault.Fault.TheVariants.{Resources}
use Rattle.rq_front.specs.Chains.{Refused}
use Rattle.rq_judged.specs.FrontEnds.{IsFrontFrom}
use Rattle.rq_restart.specs.Upgrades.{HaveFrames, IsExtent, Upgrades, bodies_in}
use Rattle.rq_restart.specs.declared.upgrades.Extent.{Extent}
use Rattle.rq_judged.proofs.Starts.{before_is, started, whole_front}
use Rattle.rq_restart.proofs.Endings.{front_bytes}

-- the last 32 bytes of a header are what the first frame is chained to
pub header_ends : (out : List ℕ) → out ≡ header Two → before (length out) out ≡ start Two
header_ends out is =
    let long : length (start Two) ≡ 32 = length-sha256 (magic Two) in
    let size : length out ≡ length (magic Two) + 32 = ap length is ∙ header_long Two in
    ap (before (length out)) (is ∙ ap (λ (z : List ℕ). magic Two ++ z) (sym (append-nil (start Two))))
    ∙ before_is (magic Two) (start Two) [] (length out) long size

-- the length and the body behind the last 32 bytes, and the digest of all that, are the next frame
pub framed_next : (old body one two new : List ℕ) → 32 ≤ length old → one ≡ old ++ to_be_bytes w32 (length body)
    → two ≡ one ++ body → new ≡ two ++ sha256 (drop (length old - 32) two)
    → new ≡ old ++ frame (before (length old) old) body
framed_next old body one two new low first second third =
    let p = before (length old) old in
    let len : List ℕ = to_be_bytes w32 (length body) in
    let from : ℕ = length old - 32 in
    let last : p ≡ drop from old = take_all 32 (drop from old) (omega (arith, low, length-drop from old)) in
    let here : two ≡ old ++ (len ++ body) = second ∙ ap (λ (z : List ℕ). z ++ body) first ∙ append_assoc old len body in
    let message : drop from two ≡ p ++ (len ++ body) =
    ap (drop from) here ∙ drop-append-le from old (len ++ body) (omega arith)
    ∙ ap (λ (z : List ℕ). z ++ (len ++ body)) (sym last) in
    third ∙ (λ i. here i ++ sha256 (message i)) ∙ append_assoc old (len ++ body) (digest p body)
    ∙ ap (λ (z : List ℕ). old ++ z) (append_assoc len body (digest p body))

-- where the next frame stands, its digest aside
pub record IsNext (b : List ℕ) (at more : ℕ) : Type 0 where
  pub frame : HasFrame (drop at b)
  pub long : length (body_in (drop at b)) ≡ stated (drop at b)
  pub room : at + (36 + stated (drop at b)) ≤ length b
  pub others : HaveFrames more (drop (at + (36 + stated (drop at b))) b)
  pub bodies : bodies_in (suc more) (drop at b)
      ≡ body_in (drop at b) ∷ bodies_in more (drop (at + (36 + stated (drop at b))) b)

pub next_at : (b : List ℕ) (at left more : ℕ) → left ≡ suc more → HaveFrames left (drop at b) → IsNext b at more
next_at b at left more some h =
    let here : List ℕ = drop at b in
    let two : HasFrame here × HaveFrames more (drop (36 + stated here) here) =
    subst (λ (n : ℕ). HaveFrames n here) some h in
    let behind : drop (36 + stated here) here ≡ drop (at + (36 + stated here)) b = drop-drop (36 + stated here) at b in
    record {
      frame = two.0;
      long = omega (arith, length-take (stated here) (drop 4 here), length-drop 4 here, two.0.room);
      room = omega (arith, two.0.room, length-drop at b);
      others = subst (HaveFrames more) behind two.1;
      bodies = ap (λ (z : List ℕ). body_in here ∷ bodies_in more z) behind;
    }

-- what is written so far, and the frames that are still to come, are the whole
pub record IsRechained (b : List ℕ) (at left : ℕ) (out last whole : List ℕ) : Type 0 where
  pub stand : HaveFrames left (drop at b)
  pub chained : out ++ frames last (bodies_in left (drop at b)) ≡ whole

-- one frame more
pub one_chained : (b : List ℕ) (at left more next : ℕ) (out last whole body new end : List ℕ) → left ≡ suc more
    → IsRechained b at left out last whole → body ≡ body_in (drop at b) → next ≡ at + (36 + length body)
    → new ≡ out ++ frame last body → end ≡ digest last body → IsRechained b next more new end whole
one_chained b at left more next out last whole body new end some h is place wrote ends =
    let here : List ℕ = drop at b in
    let step = next_at b at left more some h.stand in
    let there : next ≡ at + (36 + stated here) = place ∙ ap (λ (n : ℕ). at + (36 + n)) (ap length is ∙ step.long) in
    let others : List (List ℕ) = bodies_in more (drop next b) in
    let all : body ∷ others ≡ bodies_in left here =
    (λ i. is i ∷ bodies_in more (drop (there i) b)) ∙ sym step.bodies
    ∙ ap (λ (n : ℕ). bodies_in n here) (sym some) in
    record {
      stand = subst (λ (n : ℕ). HaveFrames more (drop n b)) (sym there) step.others;
      chained = (λ i. wrote i ++ frames (ends i) others)
          ∙ append_assoc out (frame last body) (frames (digest last body) others)
          ∙ ap (λ (bodies : List (List ℕ)). out ++ frames last bodies) all ∙ h.chained;
    }

-- none is to come
pub all_chained : (b : List ℕ) (at left : ℕ) (out last whole : List ℕ) → left ≡ 0 → IsRechained b at left out last whole
    → out ≡ whole
all_chained b at left out last whole none h =
    sym (append-nil out) ∙ ap (λ (n : ℕ). out ++ frames last (bodies_in n (drop at b))) (sym none) ∙ h.chained

-- frames of bodies that fit stand as so many frames, with these bodies
pub record AreIn (bytes : List ℕ) (bodies : List (List ℕ)) : Type 0 where
  pub stand : HaveFrames (length bodies) bytes
  pub bodies_are : bodies_in (length bodies) bytes ≡ bodies

pub are_in : (p rest : List ℕ) (bodies : List (List ℕ)) → AreBodies bodies → AreIn (frames p bodies ++ rest) bodies
are_in p rest [] fit = record { stand = tt; bodies_are = refl }
are_in p rest (body ∷ bodies) fit =
    let others : List ℕ = frames (digest p body) bodies ++ rest in
    let read = frame_reads p body others fit.0 in
    let more = are_in (digest p body) rest bodies fit.1 in
    let right = right_at p body others fit.0 in
    let here : AreIn (frame p body ++ others) (body ∷ bodies) = record {
      stand = (right.whole, subst (HaveFrames (length bodies)) (sym read.after_is) more.stand);
      bodies_are = (λ i. read.body_is i ∷ bodies_in (length bodies) (read.after_is i))
          ∙ ap (λ (xs : List (List ℕ)). body ∷ xs) more.bodies_are;
    } in
    rw (append_assoc (frame p body) (frames (digest p body) bodies) rest) here

-- behind the header of a log stand the frames of its front
pub front_in : (b : List ℕ) (version : Version) (rs : List Record) (rest : List ℕ) → IsFront b version rs rest
    → AreIn (drop 40 b) (bodies_of rs)
front_in b version rs rest front =
    let begins = front.longest.begins in
    let behind : drop 40 b ≡ frames_of (start version) rs ++ rest =
    ap (drop 40) front.whole ∙ drop_at (header version) front.bytes 40 (header_long version) ∙ begins.whole in
    rw behind
    (are_in (start version) rest (bodies_of rs) (each_map (IsRecord version) _ body_of (body_fits version) rs begins.records))

-- as many as the front has records
pub extent_in : (b : List ℕ) (e : Extent) (h : IsExtent b e)
    → HaveFrames e.count (drop 40 b) × (bodies_in e.count (drop 40 b) ≡ bodies_of h.records)
extent_in b e h =
    let are = front_in b (version_of e.version) h.records (drop e.end b) h.front in
    let count : length (bodies_of h.records) ≡ e.count = length-map h.records body_of ∙ sym h.count in (
      subst (λ (n : ℕ). HaveFrames n (drop 40 b)) count are.stand,
      ap (λ (n : ℕ). bodies_in n (drop 40 b)) (sym count) ∙ are.bodies_are,
    )

-- the front that was found
pub is_extent : (version : Version) → LogEnds → (b : List ℕ) (rs : List Record) (e : Extent) (why : Why)
    → version ≡ version_of e.version → length b ≤ log_limit → HasHeader version b
    → IsFrontFrom version empty b 40 rs e.end why
    → e.count ≡ length rs → IsExtent b e
is_extent version law b rs e why same short head h count = record {
  log = (short, (version, head));
  records = rs;
  front = subst (λ (v : Version). IsFront b v rs (drop e.end b)) same
      (whole_front version b rs e.end why (started version law b head) short h);
  within = h.within;
  count = count;
}

-- the front of a log in version 2 is that of the log that was upgraded
abbrev pub KeepsFront : Type 0
KeepsFront = (b upgraded : List ℕ) (version : Version) (records : List Record) (rest : List ℕ) → IsUpgraded b upgraded
    → IsFront b version records rest → IsFront upgraded Two records []

-- the log of the records that were found, in version 2
is_upgraded : KeepsFront → (b : List ℕ) (e : Extent) (h : IsExtent b e) (upgraded : List ℕ)
    → upgraded ≡ log_of Two h.records → IsUpgraded b upgraded × (length upgraded ≤ log_limit)
is_upgraded law b e h upgraded is =
    let u : IsUpgraded b upgraded =
    record {
      version = version_of e.version;
      records = h.records;
      rest = drop e.end b;
      front = h.front;
      bytes =
          is;
    } in
    (u, (law b upgraded (version_of e.version) h.records (drop e.end b) u h.front).short)

upgrades : KeepsFront → (b : List ℕ) (e : Extent) (h : IsExtent b e) (result : Result (Vec ℕ) Fault)
    → IfOk result (λ v. v.items ≡ log_of Two h.records) → IfErr result (λ f. f ≡ Resources) → Upgrades b result
upgrades law b e h (Ok v) is refused = let all = is_upgraded law b e h v.items is in (h.log, all.0, all.1)
upgrades law b e h (Err f) is refused = subst (Refused b) (sym refused) tt

-- where all bodies of the front were framed anew
pub chained_upgrades : KeepsFront → (b : List ℕ) (e : Extent) → IsExtent b e → (result : Result (Vec ℕ) Fault)
    → IfOk result (λ v. v.items ≡ header Two ++ frames (start Two) (bodies_in e.count (drop 40 b)))
    → IfErr result (λ f. f ≡ Resources) → Upgrades b result
chained_upgrades law b e h result is refused =
    let bodies : bodies_in e.count (drop 40 b) ≡ bodies_of h.records = (extent_in b e h).1 in
    upgrades law b e h result
    (subst (λ (xs : List (List ℕ)). IfOk result (λ v. v.items ≡ header Two ++ frames (start Two) xs)) bodies is)
    refused

-- and where the front was copied, which has version 2
pub copied_upgrades : KeepsFront → (b : List ℕ) (e : Extent) → version_of e.version ≡ Two → IsExtent b e
    → (result : Result (Vec ℕ) Fault) → IfOk result (λ v. v.items ≡ take e.end b) → IfErr result (λ f. f ≡ Resources)
    → Upgrades b result
copied_upgrades law b e two h result is refused =
    let bytes : take e.end b ≡ log_of Two h.records =
    front_bytes b (version_of e.version) h.records e.end h.within h.front
    ∙ ap (λ (v : Version). log_of v h.records) two in
    upgrades law b e h result (subst (λ (z : List ℕ). IfOk result (λ v. v.items ≡ z)) bytes is) refused
