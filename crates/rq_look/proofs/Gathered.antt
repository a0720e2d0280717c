-- Text that is gathered and then written, part by part.
use Rattle.std.proofs.Common.{◌≡◌, ◌∙◌, ℕ, List, [], ◌++◌, Option, Result, Ok, Err, OnOk, sym, ap, append_assoc, append-nil}
use Rattle.std.specs.Prelude.{if◌then◌else◌, is_ok}
use Rattle.std.specs.Io.KnownBytes.{Appends}
use Rattle.std.proofs.KnownBytes.{Appends-nil, Appends-trans}
use Rattle.rq_look.specs.Looks.{Gathers}

-- nothing
pub none_gathered : (text : List ℕ) (old : Option (List ℕ)) → Gathers [] text old text old
none_gathered text old = ([], Appends-nil old, append-nil text)

-- a text behind what is gathered, which stays there
pub kept_back : (put text mid : List ℕ) (old : Option (List ℕ)) → mid ≡ text ++ put → Gathers put text old mid old
kept_back put text mid old e = ([], Appends-nil old, sym e)

-- a text behind what is gathered, of which a part is then written
pub then_written : (put text mid left written : List ℕ) (old new : Option (List ℕ)) → mid ≡ text ++ put
    → Appends old new written → mid ≡ written ++ left → Gathers put text old left new
then_written put text mid left written old new e p f = (written, p, sym e ∙ f)

-- one text behind the other
pub both_gathered : (a b text mid left : List ℕ) (old now new : Option (List ℕ)) → Gathers a text old mid now
    → Gathers b mid now left new → Gathers (a ++ b) text old left new
both_gathered a b text mid left old now new (p, pp, e) (q, qq, f) = (
  p ++ q,
  Appends-trans old now new p q pp qq,
  sym (append_assoc text a b) ∙ ap (λ (x : List ℕ). x ++ b) e ∙ append_assoc p mid b
      ∙ ap (λ (x : List ℕ). p ++ x) f ∙ sym (append_assoc p q left),
)

-- all that is gathered is written, where nothing stood before
pub all_written : (put left : List ℕ) (old now new : Option (List ℕ)) → Gathers put [] old left now
    → Appends now new left → Appends old new put
all_written put left old now new (p, pp, e) q = rw e (Appends-trans old now new p left pp q)

-- one text behind the other, of which all is gathered
pub put_more : (old mid new a b : List ℕ) → mid ≡ old ++ a → new ≡ mid ++ b → new ≡ old ++ (a ++ b)
put_more old mid new a b e f = f ∙ ap (λ (x : List ℕ). x ++ b) e ∙ append_assoc old a b

-- what is put once it is done
pub once_put : {A E : Type 0} (r : Result A E) (old new put : List ℕ) → new ≡ (if is_ok r then old ++ put else old)
    → OnOk r (new ≡ old ++ put)
once_put (Ok x) old new put h = h
once_put (Err x) old new put h = tt
