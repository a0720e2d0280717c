-- What is answered, and when it is told.
use Rattle.std.specs.Prelude.{◌≡◌, ◌⊎◌, ◌||◌, ◌&&◌, ℕ, Bool, true, false, not, List, ◌++◌, Option, Some, None}
use Rattle.std.specs.Prelude.{[], ◌∷◌, length, string_bytes, Result, IsErr, ⊤}
use Rattle.rq_live.specs.Managers.{Stand, IsManaged}
use Rattle.rq_live.specs.Starts.{Start, state_reached}
use Rattle.rq_model.specs.Records.{Record}
use Rattle.rq_model.specs.Machine.{is_open}
use Rattle.rq_serve.specs.Answers.{answer_lines}
use Rattle.rq_serve.specs.Units.{is_doomed, KeepsDoomed, KeepsOthers}
use Rattle.rq_serve.specs.declared.answers.Answer.{Answer}
use Rattle.rq_serve.specs.declared.answers.Answer.TheVariants as answers
use Rattle.rq_serve.specs.declared.doomed.Doomed.{Doomed}
use Rattle.rq_serve.specs.declared.refusals.Undone.{Undone}
use Rattle.rq_serve.specs.declared.refusals.Undone.TheVariants as undone
use Rattle.rq_serve.specs.declared.requests.Request.{Request}
use Rattle.rq_serve.specs.declared.requests.Request.TheVariants as requests
use Rattle.rq_serve.specs.declared.session.Session.{Session}

-- who reads the answer to such a request, if it is not refused, knows that all before it is safe
abbrev pub asks_safety : Request → Bool
asks_safety (requests.Define queue limit error) = true
asks_safety (requests.Register queue who) = true
asks_safety (requests.Deregister queue who) = true
asks_safety (requests.Commit unit is_later) = not is_later
asks_safety requests.Settle = true
asks_safety (requests.Kill queue element) = true
asks_safety requests.Checkpoint = true
asks_safety requests.Carry = true
asks_safety requests.Close = true
asks_safety _ = false

abbrev pub is_refused : Answer → Bool
is_refused (answers.Refused refused) = true
is_refused answers.NoRequest = true
is_refused _ = false

-- whether the answer to what was asked says that all before it is safe
abbrev pub says_safe : Option Request → Answer → Bool
says_safe None answer = false
says_safe (Some request) answer = asks_safety request && not (is_refused answer)

-- an answer to what was asked is added to those that are to be told; if it says that all before it is
-- safe, that is known
pub record AddsAnswer (asked : Option Request) (a b : Session) : Type 0 where
  pub answer : Answer
  pub lines : string_bytes b.answers ≡ string_bytes a.answers ++ answer_lines answer
  pub safe : b.asks_sync ≡ (a.asks_sync || says_safe asked answer)

-- what was doomed is, but for the unit that the request aborts
abbrev pub KeepsBut : Request → Doomed → Doomed → Type 0
KeepsBut (requests.Abort unit) a b = KeepsOthers a b unit.0
KeepsBut _ a b = KeepsDoomed a b

-- an operation of the unit that is refused dooms it, if it is open there
abbrev pub DoomsUnit : Stand → ℕ → Undone → Doomed → Type 0
DoomsUnit m unit (undone.Refused refused) doomed = (from : Start) (rs : List Record)
    → IsManaged from rs m → is_open (state_reached from rs) unit ≡ true → is_doomed doomed unit ≡ true
DoomsUnit m unit undone.Spent doomed = ⊤

-- the same of the unit of the request, if that is such an operation
abbrev pub DoomsIfRefused : Request → Stand → Undone → Doomed → Type 0
DoomsIfRefused (requests.Enqueue unit queue priority by payload) m why doomed = DoomsUnit m unit.0 why doomed
DoomsIfRefused (requests.Dequeue unit queue by) m why doomed = DoomsUnit m unit.0 why doomed
DoomsIfRefused _ m why doomed = ⊤

-- a doomed unit is not committed: nothing is done
abbrev pub NeverCommits : {M : Type 0} → Request → Doomed → M → M → Result Answer Undone → Type 0
NeverCommits (requests.Commit unit is_later) doomed a b result = is_doomed doomed unit.0 ≡ true → (b ≡ a) × IsErr result
NeverCommits _ doomed a b result = ⊤

-- whole lines: none, or they end with an LF
abbrev pub AreWholeLines : List ℕ → Type 0
AreWholeLines bytes = (bytes ≡ []) ⊎ ((before : List ℕ) × (bytes ≡ before ++ 10 ∷ []))

-- the first so many bytes are whole lines
abbrev pub EndsLine : List ℕ → ℕ → Type 0
EndsLine bytes used = (lines rest : List ℕ) × (bytes ≡ lines ++ rest) × (used ≡ length lines) × AreWholeLines lines
