-- What was written and synced, and what a crash leaves of it.
use Rattle.std.specs.Prelude.{◌≡◌, ◌≤◌, ◌+◌, ⊤, ℕ, List, take, length, Option, Some, None, option_map}

-- these are the bytes, if they are known
abbrev pub AreStored : Option (List ℕ) → List ℕ → Type 0
AreStored None b = ⊤
AreStored (Some w) b = w ≡ b

-- All of them were synced
abbrev pub IsAllSynced : Option (List ℕ) → ℕ → Type 0
IsAllSynced None n = ⊤
IsAllSynced (Some w) n = length w ≤ n

-- and at most so many were not
abbrev pub AreUnsynced : ℕ → Option (List ℕ) → ℕ → Type 0
AreUnsynced most None n = ⊤
AreUnsynced most (Some w) n = length w ≤ n + most

-- so many of them were synced, if they are known
abbrev pub AreSynced : ℕ → Option (List ℕ) → ℕ → Type 0
AreSynced from None n = ⊤
AreSynced from (Some w) n = from ≤ n

-- so many bytes are all of them
abbrev pub HasLength : ℕ → Option (List ℕ) → Type 0
HasLength len None = ⊤
HasLength len (Some w) = length w ≡ len

-- so many bytes more than before, at most
abbrev pub IsLonger : ℕ → Option (List ℕ) → Option (List ℕ) → Type 0
IsLonger most None None = ⊤
IsLonger most None (Some v) = ⊥
IsLonger most (Some w) None = ⊥
IsLonger most (Some w) (Some v) = length v ≤ length w + most

-- the first bytes
abbrev pub cut_known : ℕ → Option (List ℕ) → Option (List ℕ)
cut_known len known = option_map (take len) known

-- a crash may leave the bytes c: they begin with those that were synced
abbrev pub CrashLeaves : Option (List ℕ) → ℕ → List ℕ → Type 0
CrashLeaves None n c = ⊤
CrashLeaves (Some w) n c = take n c ≡ take n w

-- whatever a crash may leave then, it could have left before
abbrev pub KeepsSynced : Option (List ℕ) → ℕ → Option (List ℕ) → ℕ → Type 0
KeepsSynced old m new n = (c : List ℕ) → CrashLeaves new n c → CrashLeaves old m c
