-- Texts that are appended one after another.
use Rattle.std.proofs.Common.{arith, ◌≡◌, ℕ, List, ◌++◌, Result, Ok, Err, ap, ◌∙◌, append_assoc}
use Rattle.rq_state.specs.Writing.{PutsSpelling}

pub joined : {A E : Type 0} (old mid new a b : List ℕ) (r : Result A E) → mid ≡ old ++ a → PutsSpelling mid new b r
    → PutsSpelling old new (a ++ b) r
joined old mid new a b (Ok x) e p = grind (arith, p, e, append_assoc old a b)
joined old mid new a b (Err f) e p = p

-- four numbers, then three texts
pub joined_all : {A E : Type 0} (old one two three new n g c a d u m : List ℕ) (r : Result A E)
    → one ≡ old ++ (n ++ (g ++ (c ++ a))) → two ≡ one ++ d → three ≡ two ++ u → PutsSpelling three new m r
    → PutsSpelling old new (n ++ (g ++ (c ++ (a ++ (d ++ (u ++ m)))))) r
joined_all old one two three new n g c a d u m (Ok x) e1 e2 e3 p =
    p ∙ ap (λ t. t ++ m) (e3 ∙ ap (λ t. t ++ u) (e2 ∙ ap (λ t. t ++ d) e1)) ∙ simp append_assoc
joined_all old one two three new n g c a d u m (Err f) e1 e2 e3 p = p
