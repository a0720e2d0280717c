-- The two names of a file that is made.
use Rattle.std.specs.Prelude.{ℕ, List, string_bytes}
use Rattle.rq_file.specs.declared.names.Names.{Names}

-- what is replaced
abbrev pub old_of : Names → List ℕ
old_of names = string_bytes names.old

-- what it is written under before
abbrev pub new_of : Names → List ℕ
new_of names = string_bytes names.new
