-- Records after a front, what a crash leaves of them, and the front of a log that grows.
use Rattle.std.proofs.Common.{◌≡◌, inl, inr, ℕ, suc, ◌+◌, ◌<◌, ◌≤◌, List, [], ◌∷◌, ◌++◌, length, take, drop, refl, sym}
use Rattle.std.proofs.Common.{ap, subst, ◌∙◌, append_assoc, arith}
use Rattle.std.specs.List.{AllByRecursion}
use Rattle.std.proofs.lemmas.Bool.{cases_lt}
use Rattle.std.proofs.lemmas.List.{length-append, length-drop, take_at, drop_at, take-append-le, drop-append-le}
use Rattle.std.proofs.lemmas.List.{take-append-drop, nil_from_length, append-nil}
use Rattle.byteorder.specs.Numbers.{big_from-append}
use Rattle.rq_model.specs.Records.{Record, Version}
use Rattle.rq_model.specs.Spelling.{body_of, IsRecord}
use Rattle.rq_model.specs.Frames.{digest, frame, frames_of, last_of, stated, Rest, Whole, Cut, IsRest, log_limit}
use Rattle.rq_model.specs.Frames.{header, start, log_of}
use Rattle.rq_model.specs.States.{empty}
use Rattle.rq_model.specs.Machine.{run}
use Rattle.rq_model.specs.Fronts.{Begins, Ends, IsFront}
use Rattle.rq_model.specs.Appending.{IsCleanEnd, MayFollow, CrashInFrames, CrashWhileAppending, AppendedIsFront}
use Rattle.rq_model.specs.Appending.{WrittenStays, FrontGrows, FrontStays}
use Rattle.rq_model.proofs.RecordReaders.{body_fits}
use Rattle.rq_model.proofs.Runs.{frame_long, frame_reads}
use Rattle.rq_model.proofs.Longest.{same_first, front_stops, one_header, last_of_join, front_whole}
use Rattle.rq_model.proofs.Restarts.{both_follow, parts_follow, begins_join}

-- whole frames, as many as there are, and the cut part of the next
pub record IsTorn (p part : List ℕ) (xs : List Record) : Type 0 where
  pub count : ℕ
  pub rest : List ℕ
  pub why : Rest
  pub few : count ≤ length xs
  pub next : count < length xs → length part < length (frames_of p (take (suc count) xs))
  pub whole : part ≡ frames_of p (take count xs) ++ rest
  pub ends : IsRest (last_of p (take count xs)) rest why
  pub clean : IsCleanEnd why

-- how long the frames of the first records are
more_long : (p : List ℕ) (x : Record) (xs : List Record) (k : ℕ) → length (frames_of p (take (suc k) (x ∷ xs)))
    ≡ 36 + length (body_of x) + length (frames_of (digest p (body_of x)) (take k xs))
more_long p x xs k =
    let others = frames_of (digest p (body_of x)) (take k xs) in
    omega (arith, length-append (frame p (body_of x)) others, frame_long p (body_of x))

-- a frame, and others after it
taken : (n : ℕ) (f part rest p body : List ℕ) (xs : List Record) → f ≡ take n part
    → drop n part ≡ frames_of (digest p body) xs ++ rest → part ≡ (f ++ frames_of (digest p body) xs) ++ rest
taken n f part rest p body xs front behind =
    let joined : take n part ++ drop n part ≡ f ++ (frames_of (digest p body) xs ++ rest) =
    λ i. sym front i ++ behind i in
    sym (take-append-drop n part) ∙ joined ∙ sym (append_assoc f (frames_of (digest p body) xs) rest)

pub torn : (version : Version) (p part missing : List ℕ) (xs : List Record) → AllByRecursion (IsRecord version) xs
    → frames_of p xs ≡ part ++ missing → IsTorn p part xs
torn version p part missing [] is e =
    let none : length part ≡ 0 = omega (arith, ap length e, length-append part missing) in
    record {
      count = 0;
      rest = part;
      why = Whole;
      few = omega arith;
      next = λ l. absurd (omega (arith, l));
      whole = refl;
      ends = nil_from_length part none;
      clean = inl refl;
    }
torn version p part missing (x ∷ xs) is e =
    let n = length (body_of x) in
    let f = frame p (body_of x) in
    let others = frames_of (digest p (body_of x)) xs in
    let long = frame_long p (body_of x) in
    let first = more_long p x xs 0 in
    elim (cases_lt (length part) (36 + n)) [
      | inl short ↦
          elim (cases_lt 0 (length part)) [
            | inl some ↦
                record {
                  count = 0;
                  rest = part;
                  why = Cut;
                  few = omega arith;
                  next = λ l. omega (arith, short, first);
                  whole = refl;
                  ends = (
                    some,
                    elim (cases_lt (length part) 4) [
                      | inl few ↦ inl few
                      | inr four ↦
                          let fit = body_fits version x is.0 in
                          let number : stated part ≡ n = sym (big_from-append 4 part missing four) ∙ ap stated (sym e)
                          ∙ (frame_reads p (body_of x) others fit).stated_is in
                          inr (
                            subst (λ (k : ℕ). (1 ≤ k) × (k ≤ 268435456)) (sym number) fit,
                            omega (arith, short, number),
                          )
                    ],
                  );
                  clean = inr refl;
                }
            | inr none ↦ record {
              count = 0;
              rest = part;
              why = Whole;
              few = omega arith;
              next = λ l. omega (arith, short, first);
              whole = refl;
              ends =
                  nil_from_length part (omega (arith, none));
              clean = inl refl;
            }
          ]
      | inr whole ↦
          let front = sym (take_at f others (36 + n) long) ∙ ap (take (36 + n)) e
          ∙ take-append-le (36 + n) part missing whole in
          let behind = sym (drop_at f others (36 + n) long) ∙ ap (drop (36 + n)) e
          ∙ drop-append-le (36 + n) part missing whole in
          let more = torn version (digest p (body_of x)) (drop (36 + n) part) missing xs is.1 behind in
          record {
            count = suc more.count;
            rest = more.rest;
            why = more.why;
            few = omega (arith, more.few);
            next = λ l.
                let inner = more.next (omega (arith, l)) in
                omega (arith, inner, more_long p x xs (suc more.count), length-drop (36 + n) part, whole);
            whole = taken _ f part _ p _ _ front more.whole;
            ends = more.ends;
            clean = more.clean;
          }
    ]

pub crash_in_frames : CrashInFrames
crash_in_frames version s p rs xs part missing old new parts =
    let q = last_of p rs in
    let t = torn version q part missing xs new.records parts in
    let ys = take t.count xs in
    let both = subst (MayFollow version (run s rs)) (sym (take-append-drop t.count xs)) new in
    let some = (parts_follow version (run s rs) ys (drop t.count xs) both).0 in
    let begins = begins_join version s p part t.rest rs ys old
    (record { records = some.records; lawful = some.lawful; whole = t.whole }) in
    let ends = subst (λ (z : List ℕ). IsRest z t.rest t.why) (sym (last_of_join p rs ys)) t.ends in
    record {
      count = t.count;
      rest = t.rest;
      why = t.why;
      whole = record {
        few = t.few;
        there = omega (arith, ap length t.whole, length-append (frames_of q ys) t.rest);
        next = t.next;
      };
      front = front_stops version s p (frames_of p rs ++ part) t.rest (rs ++ ys) (Ends t.why) begins ends;
      ends = ends;
      clean = t.clean;
    }

pub front_follows : (b : List ℕ) (version : Version) (rs : List Record) (rest : List ℕ) → IsFront b version rs rest
    → MayFollow version empty rs
front_follows b version rs rest h = record { records = h.longest.begins.records; lawful = h.longest.begins.lawful }

pub crash_while_appending : CrashWhileAppending
crash_while_appending b version records rest xs part missing front new parts short =
    let p = start version in
    let g = crash_in_frames version empty p records xs part missing (front_follows b version records rest front) new parts in
    let left : IsFront (log_of version records ++ part) version (records ++ take g.count xs) g.rest = record {
      short = short;
      bytes = frames_of p records ++ part;
      whole = append_assoc (header version) (frames_of p records) part;
      longest = g.front;
    } in
    record {
      count = g.count;
      rest = g.rest;
      why = g.why;
      whole = g.whole;
      front = left;
      clean = g.clean;
      restart = record {
        version = version;
        records = records ++ take g.count xs;
        rest = g.rest;
        why = Ends g.why;
        front = left;
        ends = g.ends;
        answer = refl;
      };
    }

-- the log of lawful records is its own front
pub own_front : (version : Version) (rs : List Record) → MayFollow version empty rs
    → length (log_of version rs) ≤ log_limit → IsFront (log_of version rs) version rs []
own_front version rs h short =
    let p = start version in
    let begins : Begins version empty p (frames_of p rs) rs [] =
    record { records = h.records; lawful = h.lawful; whole = sym (append-nil (frames_of p rs)) } in
    record {
      short = short;
      bytes = frames_of p rs;
      whole = refl;
      longest = front_stops version empty p (frames_of p rs) [] rs (Ends Whole) begins refl;
    }

pub appended_is_front : AppendedIsFront
appended_is_front b version records rest xs front new short =
    own_front version (records ++ xs)
    (both_follow version empty records xs (front_follows b version records rest front) new) short

-- if two lists begin the same bytes, the longer begins with the shorter
pub longer_begins : (version : Version) (p x y : List ℕ) (rs found : List Record) → AllByRecursion (IsRecord version) rs
    → AllByRecursion (IsRecord version) found → length rs ≤ length found
    → frames_of p rs ++ x ≡ frames_of p found ++ y → (others : List Record) × (found ≡ rs ++ others)
longer_begins version p x y [] found is ois short e = (found, refl)
longer_begins version p x y (r ∷ rs) [] is ois short e = absurd (omega (arith, short))
longer_begins version p x y (r ∷ rs) (o ∷ os) is ois short e =
    let first = same_first version p x y r o rs os is.0 ois.0 e in
    let more = longer_begins version (digest p (body_of r)) x y rs os is.1 ois.1 (omega (arith, short)) first.1 in
    (more.0, λ i. sym first.0 i ∷ more.1 i)

-- with the bytes apart from the header
stays_by : (version w : Version) (records found : List Record) (bytes more rest : List ℕ) → version ≡ w
    → MayFollow version empty records → bytes ≡ frames_of (start version) records ++ more
    → (length records ≤ length found) → AllByRecursion (IsRecord w) found
    → bytes ≡ frames_of (start w) found ++ rest → (others : List Record) × (found ≡ records ++ others)
stays_by version w records found bytes more rest same old is short are whole =
    let are_here = subst (λ (v : Version). AllByRecursion (IsRecord v) found) (sym same) are in
    let whole_here = subst (λ (v : Version). bytes ≡ frames_of (start v) found ++ rest) (sym same) whole in
    longer_begins version (start version) more rest records found old.records are_here short (sym is ∙ whole_here)

pub written_stays : WrittenStays
written_stays version w records found more rest old front =
    let bytes = frames_of (start version) records ++ more in
    let heads = one_header version w bytes front.bytes
    (sym (append_assoc (header version) (frames_of (start version) records) more) ∙ front.whole) in
    let here : Begins version empty (start version) front.bytes records more =
    record { records = old.records; lawful = old.lawful; whole = sym heads.1 } in
    let there = subst (λ (v : Version). Begins v empty (start v) front.bytes records more) heads.0 here in
    let long = front.longest.longest records more there in
    let (others, same) = stays_by version w records found front.bytes more rest heads.0 old (sym heads.1) long
    front.longest.begins.records front.longest.begins.whole in
    (sym heads.0, others, same)

pub front_grows : FrontGrows
front_grows b more version records xs rest left why front short begins ends =
    let p = start version in
    let bytes = front.bytes ++ more in
    let parts : bytes ≡ frames_of p records ++ (rest ++ more) =
    ap (λ (z : List ℕ). z ++ more) front.longest.begins.whole ∙ append_assoc (frames_of p records) rest more in
    let both = subst (λ (z : List ℕ). Begins version empty p z (records ++ xs) left) (sym parts)
    (begins_join version empty p (rest ++ more) left records xs (front_follows b version records rest front) begins) in
    record {
      short = short;
      bytes = bytes;
      whole = ap (λ (z : List ℕ). z ++ more) front.whole ∙ append_assoc (header version) front.bytes more;
      longest = front_stops version empty p bytes left (records ++ xs) why both ends;
    }

pub front_stays : FrontStays
front_stays b more version w records found rest left front grown =
    let whole : b ++ more ≡ log_of version records ++ (rest ++ more) =
    ap (λ (z : List ℕ). z ++ more) (front_whole b version records rest front)
    ∙ append_assoc (log_of version records) rest more in
    written_stays version w records found (rest ++ more) left (front_follows b version records rest front)
    (subst (λ (z : List ℕ). IsFront z w found left) whole grown)
