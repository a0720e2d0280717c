-- The worked facts about formats, by computing.
use Rattle.std.proofs.Common.{◌≡◌, inl, ⊎_elim, ℕ, zero, suc, ◌+◌, ◌<◌, ◌≤◌, List, [], ◌∷◌, length, refl}
use Rattle.std.proofs.Common.{subst, arith}
use Rattle.std.specs.Prelude.{replicate}
use Rattle.std.specs.Fmt.{digits}
use Rattle.std.specs.List.{range_with_len}
use Rattle.std.proofs.lemmas.List.{take_at, length-append, append-nil}
use Rattle.sha2.specs.Sha256.{sha256}
use Rattle.rq_model.specs.Frames.{magic, header, frame, digest, digest_in, body_in, AreBytes, IsBodyLength, stated}
use Rattle.rq_model.specs.Frames.{HasFrame, IsRest, Whole, Cut, Length, Digest, before}
use Rattle.rq_model.specs.Records.{One}
use Rattle.rq_model.specs.WorkedFates.{WorkedClientLines}
use Rattle.rq_model.specs.WorkedFormats.{WorkedNames, WorkedBodies, WorkedWidths, WorkedFrames, AllRests, WorkedStates}
use Rattle.rq_model.specs.WorkedFormats.{WorkedMembers, WorkedLines, one_body, two_framed}
use Rattle.rq_model.proofs.Runs.{length-sha256, right_at, stops}

pub names : WorkedNames
names = record { none = refl; bytes = refl; lengths = refl }

pub bodies : WorkedBodies
bodies = grind arith

pub widths : WorkedWidths
widths = grind arith

-- a frame that states n, in this many bytes
frame_of : (xs : List ℕ) (n long : ℕ) → stated xs ≡ n → length xs ≡ long → 1 ≤ n → n ≤ 268435456 → 36 + n ≤ long
    → HasFrame xs
frame_of xs n long is has one most room = grind arith

room_in : (xs : List ℕ) (n long : ℕ) → stated xs ≡ n → length xs ≡ long → long < 36 + n → HasFrame xs → ⊥
room_in xs n long is has short h = omega (arith, is, has, short, h.room)

nothing_stated : stated (0 ∷ 0 ∷ 0 ∷ 0 ∷ replicate 36 0) ≡ 0
nothing_stated = refl

pub framed : WorkedFrames
framed = record {
  lengths = ((omega arith, omega arith), (omega arith, omega arith));
  no_body = λ h. omega (arith, h.0);
  long_body = λ h. omega (arith, h.1);
  limit = refl;
  summed = refl;
  framed = refl;
  two_frames = refl;
  last_of_none = refl;
  last_of_two = refl;
  magic_one = refl;
  magic_two = refl;
  started = refl;
  header_one = refl;
  header_two = refl;
  has_header = take_at (header One) (7 ∷ []) 40
      (omega (arith, length-append (magic One) (sha256 (magic One)), length-sha256 (magic One)));
  bytes = bytes;
  no_byte = λ h. omega (arith, h 0);
  log = refl;
  last_frame = refl;
  states_length = refl;
  holds_body = refl;
  holds_digest = refl;
  a_frame = frame_of (0 ∷ 0 ∷ 0 ∷ 2 ∷ replicate 34 0) 2 38 refl refl (omega arith) (omega arith) (omega arith);
  short_frame = λ h. room_in (0 ∷ 0 ∷ 0 ∷ 2 ∷ replicate 33 0) 2 37 refl refl (omega arith) h;
  empty_frame = λ h. omega (arith, h.in_range.0, nothing_stated);
  bodies = (((omega arith, omega arith), tt), λ h. omega (arith, h.0.0));
  before_34 = refl;
  no_frame = record {
    within = omega arith;
    run = stops (before 40 (range_with_len 0 40)) [] [] [] Whole tt refl refl;
    follows = refl;
  };
}
  where
    bytes : AreBytes (255 ∷ [])
    bytes zero = omega arith
    bytes (suc i) = omega arith

not_cut : (p xs : List ℕ) (n long : ℕ) → stated xs ≡ n → length xs ≡ long → 4 ≤ long → 36 + n ≤ long → IsRest p xs Cut
    → ⊥
not_cut p xs n long is has four room h = grind arith

out_after : (p xs : List ℕ) (n long : ℕ) → stated xs ≡ n → length xs ≡ long → 4 ≤ long → (IsBodyLength n → ⊥)
    → IsRest p xs Length
out_after p xs n long is has four out = (omega (arith, has, four), λ range. out (subst IsBodyLength is range))

right_after : (p : List ℕ) → IsRest p (frame p one_body) Digest → ⊥
right_after p h =
    let framed = right_at p one_body [] (omega arith, omega arith) in
    let whole = append-nil (frame p one_body) in
    h.1 (subst (λ (z : List ℕ). digest_in z ≡ digest p (body_in z)) whole framed.right)

pub rests : AllRests
rests p = record {
  whole = refl;
  not_whole = λ h. cc;
  nothing_cut = λ h. omega (arith, h.0);
  one_byte = (omega arith, inl (omega arith));
  three_bytes = (omega arith, inl (omega arith));
  frame_cut = grind arith;
  frame_not_cut = not_cut p (0 ∷ 0 ∷ 0 ∷ 2 ∷ replicate 34 0) 2 38 refl refl (omega arith) (omega arith);
  out_not_cut = λ h. ⊎_elim (λ few. omega (arith, few)) (λ short. omega (arith, short.0.0)) h.1;
  out_of_range = out_after p (0 ∷ 0 ∷ 0 ∷ 0 ∷ []) 0 4 refl refl (omega arith) (λ range. omega (arith, range.0));
  over = grind arith;
  not_over = λ h. h.1 (omega arith, omega arith);
  no_length = λ h. omega (arith, h.0);
  wrong = λ differ. (frame_of two_framed 2 39 refl refl (omega arith) (omega arith) (omega arith), differ);
  right = right_after p;
}

pub states : WorkedStates
states = grind arith

pub members : WorkedMembers
members = grind arith

pub lines : WorkedLines
unfolding digits
lines = record {
  hex = refl;
  payloads = refl;
  errors = refl;
  elements = refl;
  reasons = refl;
  first_line = refl;
  second_line = refl;
  queue = refl;
  element_free = refl;
  by_enqueue = refl;
  by_dequeue = refl;
  by_none = refl;
}

-- the lines of clients
pub client_lines_worked : WorkedClientLines
unfolding digits
client_lines_worked = record {
  its_line = refl;
  other_queue = refl;
  longer_name = refl;
  not_there = refl;
  all = refl;
  no_queue = refl;
  longer_number = refl;
  far = refl;
  far_from_none = refl;
}
