-- What was dealt is what the seats took plus what is left: each number occurs as often.
use Rattle.std.specs.Prelude.{◌≡◌, ℕ, ◌+◌, ◌==◌, List, length, count_by, sum_by}

-- how often x occurs in the list
abbrev pub times : ℕ → List ℕ → ℕ
times x xs = count_by (λ y. y == x) xs

-- how often x occurs in all lists together
abbrev pub times_in : ℕ → List (List ℕ) → ℕ
times_in x lists = sum_by (times x) lists

-- how many numbers the lists have in all
abbrev pub size : List (List ℕ) → ℕ
size lists = sum_by length lists

-- the taken lists and the numbers that are left together hold each number as often as the deal does
abbrev pub Ledger : List (List ℕ) → List (List ℕ) → List ℕ → Type 0
Ledger deal takens left = (x : ℕ) → times_in x takens + times x left ≡ times_in x deal
