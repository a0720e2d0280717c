-- A line has no LF, so that a script is cut where its lines end.
use Rattle.std.proofs.Common.{◌≡◌, ℕ, ◌^◌, ◌<◌, true, false, cond, eqb, List, [], ◌∷◌, ◌++◌, Option, Some, None, refl}
use Rattle.std.proofs.Common.{ap, ◌∙◌, arith, not, ◌/◌, ◌%◌}
use Rattle.std.specs.Prelude.{codes}
use Rattle.std.specs.List.{flat_map, list_all}
use Rattle.std.specs.Fmt.{decimal, digit_glyph}
use Rattle.std.proofs.lemmas.Bool.Decides.{nat_tests}
use Rattle.std.proofs.lemmas.Option.{same_Some}
use Rattle.rq_model.specs.Records.{By, Record, Define, Register, Deregister, Begin, Enqueue, Dequeue, Commit, Abort}
use Rattle.rq_model.specs.Records.{Checkpoint, Kill, Version, One, Two}
use Rattle.rq_model.specs.Spelling.{IsRecord, IsWho}
use Rattle.rq_model.specs.Reports as reports
use Rattle.rq_model.specs.Reports.{payload_text, error_text}
use Rattle.rq_model.proofs.Lists.{by_cases, each_append}
use Rattle.rq_writer.specs.Script.{Line, Told, Spelled, IsLine, line_text, record_text, who_name, who_tag}
use Rattle.rq_writer.specs.Reading.{cut_at}
use Rattle.rq_writer.specs.Made.{NoLine}
use Rattle.rq_writer.specs.Making.{TellsNone}
use Rattle.rq_writer.proofs.Parts.{cut_again, Lacks, lacks, decimal_lacks, name_lacks, who_lacks}

-- a field and a space in front: any, a word, a number
field : (front rest : List ℕ) → Lacks 10 front → Lacks 10 rest → Lacks 10 (front ++ 32 ∷ rest)
field front rest h k = each_append (λ c. eqb c 10 ≡ false) front (32 ∷ rest) h (refl, k)

word : (w rest : List ℕ) → list_all (λ c. not (eqb c 10)) w ≡ true → Lacks 10 rest → Lacks 10 (w ++ 32 ∷ rest)
word w rest h = field w rest (lacks (λ c. not (eqb c 10)) 10 w refl h)

number : (n : ℕ) (rest : List ℕ) → n < 2 ^ 64 → Lacks 10 rest → Lacks 10 (decimal n ++ 32 ∷ rest)
number n rest lt = field (decimal n) rest (decimal_lacks 10 n refl lt)

tag_lacks : (by : Option By) → IsWho by → Lacks 10 (decimal (who_tag by))
tag_lacks None h = decimal_lacks 10 0 refl (omega arith)
tag_lacks (Some by) h = decimal_lacks 10 by.tag refl h.1

error_lacks : (n : ℕ) → n < 2 ^ 32 → Lacks 10 (error_text n)
error_lacks n lt = by_cases (eqb n 4294967295) (λ b. Lacks 10 (cond b (codes "-") (decimal n))) (λ e. (refl, tt))
    (λ e. decimal_lacks 10 n refl (omega (arith, lt)))

glyph_lacks : (d : ℕ) → eqb (digit_glyph false d) 10 ≡ false
glyph_lacks d = grind (arith, nat_tests)

pairs_lack : (bytes : List ℕ) → Lacks 10 (flat_map reports.hex_of bytes)
pairs_lack [] = tt
pairs_lack (b ∷ bytes) = (glyph_lacks (b / 16), (glyph_lacks (b % 16), pairs_lack bytes))

hex_lacks : (bytes : List ℕ) → Lacks 10 (payload_text bytes)
hex_lacks [] = (refl, tt)
hex_lacks (b ∷ bytes) = pairs_lack (b ∷ bytes)

record_lacks : (version : Version) (r : Record) → IsRecord version r → Lacks 10 (record_text r)
record_lacks version (Define limit error name) h =
    word (codes "define") _ refl
    (field name _ (name_lacks 10 name refl h.2) (number limit _ (omega (arith, h.0)) (error_lacks error h.1)))
record_lacks version (Register queue name) h =
    word (codes "register") _ refl (number queue _ (omega (arith, h.0)) (name_lacks 10 name refl h.1))
record_lacks version (Deregister queue name) h =
    word (codes "deregister") _ refl (number queue _ (omega (arith, h.0)) (name_lacks 10 name refl h.1))
record_lacks version (Begin unit) h = word (codes "begin") _ refl (decimal_lacks 10 unit refl h)
record_lacks version (Enqueue unit queue priority by payload) h =
    word (codes "enqueue") _ refl
    (number unit _ h.0 (number queue _ (omega (arith, h.1)) (number priority _ (omega (arith, h.2))
    (field (who_name by) _ (who_lacks 10 by refl h.3) (field (decimal (who_tag by)) _ (tag_lacks by h.3)
    (hex_lacks payload))))))
record_lacks version (Dequeue unit queue by) h =
    word (codes "dequeue") _ refl
    (number unit _ h.0 (number queue _ (omega (arith, h.1))
    (field (who_name by) _ (who_lacks 10 by refl h.2) (tag_lacks by h.2))))
record_lacks version (Commit unit) h = word (codes "commit") _ refl (decimal_lacks 10 unit refl h)
record_lacks version (Abort unit) h = word (codes "abort") _ refl (decimal_lacks 10 unit refl h)
record_lacks One (Kill queue element) h = absurd h
record_lacks Two (Kill queue element) h =
    word (codes "kill") _ refl (number queue _ (omega (arith, h.0)) (decimal_lacks 10 element refl h.1))
record_lacks version (Checkpoint bytes) h = word (codes "checkpoint-hex") _ refl (hex_lacks bytes)

line_lacks : (version : Version) (l : Line) → IsLine version l → Lacks 10 (line_text l)
line_lacks version (Told r) h = record_lacks version r h.0
line_lacks version Spelled h = lacks (λ c. not (eqb c 10)) 10 (codes "checkpoint") refl refl

pub cut_line : (version : Version) (l : Line) (after : List ℕ) → IsLine version l
    → cut_at 10 (line_text l ++ 10 ∷ after) ≡ Some (line_text l, after)
cut_line version l after h = cut_again 10 (line_text l) after (line_lacks version l h)

-- if there is no LF, there is no line
pub no_lf : (version : Version) (rest : List ℕ) → None ≡ cut_at 10 rest → NoLine version rest
no_lf version rest none l after is e = let found : cut_at 10 rest ≡ Some (line_text l, after) =
    ap (cut_at 10) e ∙ cut_line version l after is in absurd cc

-- if the first text tells no line, there is no line
pub no_tale : (version : Version) (rest : List ℕ) (x : List ℕ × List ℕ) → Some x ≡ cut_at 10 rest
    → TellsNone version x.0 → NoLine version rest
no_tale version rest x found none l after is e =
    let same : x ≡ (line_text l, after) = same_Some _ _ (found ∙ ap (cut_at 10) e ∙ cut_line version l after is) in
    none l (is, ap (λ (y : List ℕ × List ℕ). y.0) same)
