-- In bytes with a header the front is found, and why it ends; also from a checkpoint that spells a state.
use Rattle.std.proofs.Common.{◌≡◌, ◌⊎◌, inl, inr, ℕ, zero, suc, ◌+◌, ◌≤◌, true, false, List, [], ◌∷◌, ◌++◌, length}
use Rattle.std.proofs.Common.{take, drop, Option, Some, None, refl, sym, ap, subst, ◌∙◌, arith}
use Rattle.std.proofs.lemmas.Bool.{and_from, cases_lt, cases_Bool}
use Rattle.std.proofs.lemmas.List.{take_at, length-append, take-append-drop, nil_from_length}
use Rattle.std.proofs.lemmas.Slice.Eq.{bytes_eq-Decides}
use Rattle.sha2.specs.Sha256.{sha256}
use Rattle.rq_bytes.proofs.Single.{IsBytes-drop, IsBytes-take}
use Rattle.rq_bytes.proofs.Together.{spelled_by, read_again}
use Rattle.rq_model.specs.Records.{Record, Version}
use Rattle.rq_model.specs.Spelling.{body_of, IsRecord, Spells}
use Rattle.rq_model.specs.Frames.{log_limit, digest, frame, magic, HasHeader, AreBytes, last_of, stated, body_in}
use Rattle.rq_model.specs.Frames.{HasRightFrame, Rest, Whole, Cut, Length, Digest, IsRest, header, before}
use Rattle.rq_model.specs.States.{State, empty}
use Rattle.rq_model.specs.Machine.{is_lawful, step, run}
use Rattle.rq_model.specs.WellFormed.{IsWellFormed}
use Rattle.rq_model.specs.Fronts.{Begins, Why, Ends, Form, Law, IsWhy, IsFront, Restarted, restarted, IsRestart}
use Rattle.rq_model.specs.Reports.{IsQueueText}
use Rattle.rq_model.specs.Checkpoints.{IsRestartUpTo}
use Rattle.rq_model.specs.LogLaws.{EveryLogHasReport, EveryCheckpointHasReport}
use Rattle.rq_model.specs.Closing.{HasReport, CrashSaysTheSame}
use Rattle.rq_model.specs.Reading.{record_read}
use Rattle.rq_model.proofs.WorkedReports.{front_has_report, final_kept}
use Rattle.rq_model.proofs.Kept.{runs_are_well_formed, empty_is_well_formed}
use Rattle.rq_model.proofs.RecordReaders.{reads_record}
use Rattle.rq_model.proofs.Runs.{frame_at, frame_long, frames_assoc}
use Rattle.rq_model.proofs.Longest.{front_stops}
use Rattle.rq_model.proofs.Restarts.{header_long}
use Rattle.rq_model.proofs.Tails.{crash_in_the_tail}
use Rattle.rq_model.proofs.Texts.{is_text}

-- a body is read as the record that it spells, or spells none
abbrev SpellsOrNot : Version → List ℕ → Type 0
SpellsOrNot version body = ((r : Record) × Spells version r body) ⊎ ((r : Record) → Spells version r body → ⊥)

spells_or_not : (version : Version) (body : List ℕ) → AreBytes body → SpellsOrNot version body
spells_or_not version body fits = read (record_read version body) refl
  where
    read : (o : Option (Record × List ℕ)) → record_read version body ≡ o → SpellsOrNot version body
    read (Some x) e = inl (x.0, spelled_by body x (reads_record version) fits e)
    read None e = inr (λ r its. let clash =
        sym e ∙ read_again body r (reads_record version) its.0 its.1 in absurd cc)

-- there is a frame whose digest is right, or one line says what follows
found_frame : (p bytes : List ℕ) → HasRightFrame p bytes ⊎ ((why : Rest) × IsRest p bytes why)
found_frame p bytes = elim (cases_lt 0 (length bytes)) [
  | inr none ↦ inr (Whole, nil_from_length bytes (omega (arith, none)))
  | inl some ↦
      elim (cases_lt (length bytes) 4) [
        | inl few ↦ inr (Cut, (some, inl few))
        | inr four ↦
            elim (cases_lt 0 (stated bytes)) [
              | inr nothing ↦ inr (Length, (four, λ range. omega (arith, nothing, range.0)))
              | inl one ↦
                  elim (cases_lt 268435456 (stated bytes)) [
                    | inl over ↦ inr (Length, (four, λ range. omega (arith, over, range.1)))
                    | inr under ↦
                        elim (cases_lt (length bytes) (36 + stated bytes)) [
                          | inl short ↦ inr (Cut, (some, inr ((one, under), short)))
                          | inr room ↦
                              elim (cases_Bool _) [
                                | inl same ↦ inl
                                    (record {
                                      whole = record { in_range = (one, under); room = room };
                                      right =
                                          (bytes_eq-Decides _ _).0 same;
                                    })
                                | inr other ↦ inr (
                                  Digest,
                                  (
                                    record { in_range = (one, under); room = room },
                                    λ same. no_true
                                        (sym ((bytes_eq-Decides _ _).1 same)
                                        ∙ other),
                                  ),
                                )
                              ]
                        ]
                  ]
            ]
      ]
]
  where
    no_true : true ≡ false → ⊥
    no_true e = cc

-- lawful records at the front of bytes, and why no more follow
pub record Found (version : Version) (s : State) (p bytes : List ℕ) : Type 0 where
  pub records : List Record
  pub rest : List ℕ
  pub why : Why
  pub begins : Begins version s p bytes records rest
  pub ends : IsWhy version (run s records) (last_of p records) rest why

nothing_found : (version : Version) (s : State) (p bytes : List ℕ) (why : Why) → IsWhy version s p bytes why
    → Found version s p bytes
nothing_found version s p bytes why ends =
    record {
      records = [];
      rest = bytes;
      why = why;
      begins = record { records = tt; lawful = refl; whole = refl };
      ends = ends;
    }

-- one more record
found_first : (version : Version) (s : State) (p bytes after : List ℕ) (r : Record) → IsRecord version r
    → is_lawful version s r ≡ true → bytes ≡ frame p (body_of r) ++ after
    → Found version (step s r) (digest p (body_of r)) after → Found version s p bytes
found_first version s p bytes after r is lawful whole more = record {
  records = r ∷ more.records;
  rest = more.rest;
  why = more.why;
  begins = record {
    records = (is, more.begins.records);
    lawful = and_from _ _ lawful more.begins.lawful;
    whole = whole ∙ ap (λ (z : List ℕ). frame p (body_of r) ++ z) more.begins.whole
        ∙ sym (frames_assoc p _ _ _);
  };
  ends = more.ends;
}

pub found : (n : ℕ) (version : Version) (s : State) (p bytes : List ℕ) → length bytes ≤ n → AreBytes bytes
    → Found version s p bytes
found zero version s p bytes few fits =
    nothing_found version s p bytes (Ends Whole) (nil_from_length bytes (omega (arith, few)))
found (suc n) version s p bytes few fits = elim (found_frame p bytes) [
  | inr stop ↦ nothing_found version s p bytes (Ends stop.0) stop.1
  | inl right ↦
      elim (spells_or_not version (body_in bytes)
      (IsBytes-take (stated bytes) (drop 4 bytes) (IsBytes-drop 4 bytes fits))) [
        | inr none ↦ nothing_found version s p bytes Form (right, none)
        | inl (r, spelled) ↦
            elim (cases_Bool (is_lawful version s r)) [
              | inr unlawful ↦ nothing_found version s p bytes Law (right, r, spelled, unlawful)
              | inl lawful ↦
                  let after = drop (36 + stated bytes) bytes in
                  let framed = (frame_at p bytes fits right).0 ∙ ap (λ (z : List ℕ). frame p z ++ after) spelled.1 in
                  let shorter : length after ≤ n =
                  omega (
                    arith,
                    few,
                    ap length framed,
                    length-append (frame p (body_of r)) after,
                    frame_long p (body_of r),
                  ) in
                  found_first version s p bytes after r spelled.0 lawful framed
                  (found n _ _ _ after shorter (IsBytes-drop (36 + stated bytes) bytes fits))
            ]
      ]
]

-- The front of bytes with a header, and its end.
pub record HasFront (version : Version) (b : List ℕ) : Type 0 where
  pub records : List Record
  pub rest : List ℕ
  pub why : Why
  pub front : IsFront b version records rest
  pub ends : IsWhy version (run empty records) (last_of (sha256 (magic version)) records) rest why

pub has_front : (version : Version) (b : List ℕ) → AreBytes b → length b ≤ log_limit → HasHeader version b
    → HasFront version b
has_front version b fits short head =
    let start = sha256 (magic version) in
    let bytes = drop 40 b in
    let f = found (length bytes) version empty start bytes (omega arith) (IsBytes-drop 40 b fits) in
    record {
      records = f.records;
      rest = f.rest;
      why = f.why;
      front = record {
        short = short;
        bytes = bytes;
        whole = sym (take-append-drop 40 b) ∙ ap (λ (z : List ℕ). z ++ bytes) head;
        longest = front_stops version empty start bytes f.rest f.records f.why f.begins f.ends;
      };
      ends = f.ends;
    }

pub every_log_has_report : EveryLogHasReport
every_log_has_report version b fits short head =
    let f = has_front version b fits short head in
    front_has_report b version f.records f.rest f.why f.front f.ends

pub front_restart : (b : List ℕ) (version : Version) (records : List Record) (rest : List ℕ) → AreBytes b
    → IsFront b version records rest → (r : Restarted) × IsRestart b r
front_restart b version records rest fits front =
    let head = ap (take 40) front.whole ∙ take_at (header version) front.bytes 40 (header_long version) in
    let f = has_front version b fits front.short head in (
      restarted (run empty f.records) (length f.rest) (length b) f.why,
      grind arith,
    )

pub lines_report : (b : List ℕ) (r : Restarted) (queues : List ℕ) → IsRestart b r → IsQueueText r.state queues
    → HasReport b r queues
lines_report b r queues restart lines =
    record { restart = restart; lines = lines; report = (r, restart, (queues, lines, refl)) }

-- what a restart returns has queue lines
pub restart_lines : (b : List ℕ) (r : Restarted) → IsRestart b r → (queues : List ℕ) × HasReport b r queues
restart_lines b r restart =
    let keeps = runs_are_well_formed restart.version empty restart.records empty_is_well_formed
    restart.front.longest.begins.lawful in
    let ended = subst IsWellFormed (sym (ap (λ (z : Restarted). z.state) restart.answer))
    (final_kept restart.version (run empty restart.records) keeps) in
    let (queues, lines, made) = is_text r ended in
    (queues, lines_report b r queues restart lines)

pub crash_says_the_same : CrashSaysTheSame
crash_says_the_same b tail part missing version records rest fits front tailed parts short =
    let (r, restart) = front_restart b version records rest fits front in
    let (queues, told) = restart_lines b r restart in
    let closed = crash_in_the_tail b tail part missing version records rest r front tailed parts short restart in (
      r,
      closed.again,
      queues,
      told,
      lines_report _ _ _ closed.restart ((closed.lines queues).1 told.lines),
    )

pub every_checkpoint_has_report : EveryCheckpointHasReport
every_checkpoint_has_report most version b offset kept s fits short head checkpoint spells =
    (_, (r, restart, is_text r ended))
  where
    f : Found version s (before offset b) (drop offset b)
    f = found (length (drop offset b)) version s (before offset b) (drop offset b)
        (omega arith) (IsBytes-drop offset b fits)

    r : Restarted
    r = restarted (run s f.records) (length f.rest) (length b) f.why

    restart : IsRestartUpTo most b offset r
    restart = record {
      version = version;
      state = s;
      kept = kept;
      records = f.records;
      rest = f.rest;
      why = f.why;
      short = short;
      header = head;
      checkpoint = checkpoint;
      spells = spells;
      front = front_stops version s (before offset b) (drop offset b) f.rest f.records f.why f.begins f.ends;
      ends = f.ends;
      answer = refl;
    }

    ended : IsWellFormed r.state
    ended = final_kept version (run s f.records) (runs_are_well_formed version s f.records spells.keeps f.begins.lawful)
