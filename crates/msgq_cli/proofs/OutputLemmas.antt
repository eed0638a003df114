-- What is printed piece by piece.
use Rattle.std.proofs.Common.{◌≡◌, ℕ, Bool, true, false, List, [], ◌∷◌, ◌++◌, ◌-◌, length, take, drop, Option, refl, sym, ap, ◌∙◌, subst, append_assoc, append-nil, ◌<◌, ◌+◌, get_or, map, take-append-drop, slice_index, ◌/◌, ◌%◌}
use Rattle.std.proofs.lemmas.List.{take_rest, take_more, map-append}
use Rattle.std.proofs.KnownBytes.{Appends-nil, Appends-trans, Appends-kept}
use Rattle.std.specs.Io.KnownBytes.{Appends, Keeps}
use Rattle.hex.specs.Hex.{encode_with, encode_lower, lower_digits}
use Rattle.msgq_cli.specs.Answers.{line_of}
use Rattle.msgq_cli.specs.Outputs.{OutputState, Takes, Prints, PrintsOn}

-- a writer took the beginning of a text, and the rest is left
pub record IsTaking (old now : Option (List ℕ)) (text rest : List ℕ) : Type 0 where
  pub taken : List ℕ
  pub parts : text ≡ taken ++ rest
  pub appends : Appends old now taken

pub IsTaking-none : (old : Option (List ℕ)) (text : List ℕ) → IsTaking old old text text
IsTaking-none old text = record { taken = []; parts = refl; appends = Appends-nil old }

-- it takes n bytes more
pub IsTaking-more : (old mid new : Option (List ℕ)) (text rest : List ℕ) (n : ℕ) → IsTaking old mid text rest
    → Appends mid new (take n rest) → IsTaking old new text (take (length rest - n) (drop n rest))
IsTaking-more old mid new text rest n before more = record {
  taken = before.taken ++ take n rest;
  parts =
      before.parts ∙ ap (λ l. before.taken ++ l) (sym (take-append-drop n rest))
      ∙ sym (append_assoc before.taken (take n rest) (drop n rest))
      ∙ ap (λ l. (before.taken ++ take n rest) ++ l) (sym (take_rest rest n));
  appends = Appends-trans old mid new before.taken (take n rest) before.appends more;
}

-- a write that was refused leaves what was taken
pub IsTaking-kept : (old mid new : Option (List ℕ)) (text rest : List ℕ) → IsTaking old mid text rest → Keeps mid new
    → IsTaking old new text rest
IsTaking-kept old mid new text rest before kept =
    record {
      taken = before.taken;
      parts = before.parts;
      appends = Appends-kept old mid new before.taken before.appends kept;
    }

pub Takes-all : (old new : Option (List ℕ)) (text rest : List ℕ) → IsTaking old new text rest → rest ≡ []
    → Takes false old new text
Takes-all old new text rest took empty =
    subst (Appends old new) (sym (took.parts ∙ ap (λ l. took.taken ++ l) empty ∙ append-nil took.taken)) took.appends

pub Takes-part : (old new : Option (List ℕ)) (text rest : List ℕ) → IsTaking old new text rest → Takes true old new text
Takes-part old new text rest took =
    record { taken = took.taken; left = rest; parts = took.parts; appends = took.appends }

-- nothing is printed
pub Prints-nil : (o : OutputState) → Prints o o []
Prints-nil o = by_refused o.refused refl
  where
    by_refused : (r : Bool) → o.refused ≡ r → PrintsOn r o o []
    by_refused true is = refl
    by_refused false is = subst (λ r. Takes r o.known o.known []) (sym is) (Appends-nil o.known)

-- a writer takes two texts, one after the other
Takes-then : (r : Bool) (a b c : Option (List ℕ)) (xs ys : List ℕ) → Takes false a b xs → Takes r b c ys →
    Takes r a c (xs ++ ys)
Takes-then false a b c xs ys first then_ = Appends-trans a b c xs ys first then_
Takes-then true a b c xs ys first then_ = record {
  taken = xs ++ then_.taken;
  left = then_.left;
  parts = ap (λ l. xs ++ l) then_.parts ∙ sym (append_assoc xs then_.taken then_.left);
  appends = Appends-trans a b c xs then_.taken first then_.appends;
}

-- what refused a part of the first text takes no more
Takes-refused : (a b : Option (List ℕ)) (xs ys : List ℕ) → Takes true a b xs → Takes true a b (xs ++ ys)
Takes-refused a b xs ys first = record {
  taken = first.taken;
  left = first.left ++ ys;
  parts = ap (λ l. l ++ ys) first.parts ∙ append_assoc first.taken first.left ys;
  appends = first.appends;
}

-- two texts are printed, one after the other
pub Prints-then : (a b c : OutputState) (xs ys : List ℕ) → Prints a b xs → Prints b c ys → Prints a c (xs ++ ys)
Prints-then a b c xs ys first second = by_start a.refused refl first
  where
    by_middle : (r : Bool) → b.refused ≡ r → Takes r a.known b.known xs → PrintsOn r b c ys
        → Takes c.refused a.known c.known (xs ++ ys)
    by_middle false is took goes = Takes-then c.refused a.known b.known c.known xs ys took goes
    by_middle true is took same = subst (λ (o : OutputState). Takes o.refused a.known o.known (xs ++ ys)) (sym same)
        (subst (λ r. Takes r a.known b.known (xs ++ ys)) (sym is) (Takes-refused a.known b.known xs ys took))

    by_start : (r : Bool) → a.refused ≡ r → PrintsOn r a b xs → PrintsOn r a c (xs ++ ys)
    by_start false is goes = by_middle b.refused refl goes second
    by_start true is same =
        stays (subst (λ r. PrintsOn r b c ys) (ap (λ (o : OutputState). o.refused) same ∙ is) second)
      where
        stays : c ≡ b → c ≡ a
        stays kept = kept ∙ same

-- digits of bytes, one byte after the other
pub encode-append : (digits xs ys : List ℕ) →
    encode_with digits (xs ++ ys) ≡ encode_with digits xs ++ encode_with digits ys
unfolding encode_with
encode-append digits [] ys = refl
encode-append digits (x ∷ xs) ys =
    ap (λ l. slice_index digits (x / 16) ∷ slice_index digits (x % 16) ∷ l) (encode-append digits xs ys)

-- the digits of the beginning of some bytes are printed, and the rest is left
pub record IsSpelling (old now : OutputState) (bytes rest : List ℕ) : Type 0 where
  pub spelled : List ℕ
  pub parts : bytes ≡ spelled ++ rest
  pub prints : Prints old now (encode_lower spelled)

-- none is printed yet
pub IsSpelling-none : (o : OutputState) (bytes rest : List ℕ) → rest ≡ bytes → IsSpelling o o bytes rest
unfolding encode_with
IsSpelling-none o bytes rest all = record { spelled = []; parts = sym all; prints = Prints-nil o }

-- those of a block more
pub IsSpelling-more : (old mid new : OutputState) (bytes rest block after : List ℕ) → IsSpelling old mid bytes rest
    → rest ≡ block ++ after → Prints mid new (encode_lower block) → IsSpelling old new bytes after
IsSpelling-more old mid new bytes rest block after before cut more = record {
  spelled = before.spelled ++ block;
  parts = before.parts ∙ ap (λ l. before.spelled ++ l) cut ∙ sym (append_assoc before.spelled block after);
  prints =
      subst (Prints old new) (sym (encode-append lower_digits before.spelled block))
      (Prints-then old mid new _ _ before.prints more);
}

-- none is left
pub IsSpelling-all : (old new : OutputState) (bytes rest : List ℕ) → IsSpelling old new bytes rest → rest ≡ []
    → Prints old new (encode_lower bytes)
IsSpelling-all old new bytes rest spells none =
    subst (λ l. Prints old new (encode_lower l))
    (sym (spells.parts ∙ ap (λ l. spells.spelled ++ l) none ∙ append-nil spells.spelled)) spells.prints

-- words with a space (32) before each
abbrev pub spaced : List (List ℕ) → List ℕ
spaced [] = []
spaced (word ∷ words) = 32 ∷ word ++ spaced words

-- a line is its first word and then words behind spaces, and an LF (10)
pub line_of-spaced : (word : List ℕ) (words : List (List ℕ)) →
    line_of (word ∷ words) ≡ word ++ (spaced words ++ 10 ∷ [])
line_of-spaced word [] = refl
line_of-spaced word (next ∷ words) = ap (λ l. word ++ 32 ∷ l)
    (line_of-spaced next words ∙ sym (append_assoc next (spaced words) (10 ∷ [])))

spaced-append : (xs ys : List (List ℕ)) → spaced (xs ++ ys) ≡ spaced xs ++ spaced ys
spaced-append [] ys = refl
spaced-append (x ∷ xs) ys =
    ap (λ l. 32 ∷ x ++ l) (spaced-append xs ys) ∙ ap (λ l. 32 ∷ l) (sym (append_assoc x (spaced xs) (spaced ys)))

-- one word more
pub Prints-spaced : {X : Type 0} (a b c d : OutputState) (text : X → List ℕ) (words : List X) (i : ℕ) (x : X) →
    i < length words
    → Prints a b (spaced (map text (take i words))) → Prints b c (32 ∷ []) → Prints c d (text (get_or words i x))
    → Prints a d (spaced (map text (take (i + 1) words)))
Prints-spaced a b c d text words i x below before space word =
    let more :
    spaced (map text (take (i + 1) words)) ≡ spaced (map text (take i words)) ++ (32 ∷ text (get_or words i x)) =
    ap (λ l. spaced (map text l)) (take_more words i x below)
    ∙ ap spaced (map-append text (take i words) (get_or words i x ∷ []))
    ∙ spaced-append (map text (take i words)) (text (get_or words i x) ∷ [])
    ∙ ap (λ l. spaced (map text (take i words)) ++ 32 ∷ l) (append-nil (text (get_or words i x))) in
    subst (Prints a d) (sym more) (Prints-then a b d _ _ before (Prints-then b c d _ _ space word))

-- the whole line
pub Prints-line : {X : Type 0} (a b c d : OutputState) (text : X → List ℕ) (first : X) (rest : List X) →
    Prints a b (text first)
    → Prints b c (spaced (map text rest)) → Prints c d (10 ∷ []) → Prints a d (line_of (map text (first ∷ rest)))
Prints-line a b c d text first rest word words end =
    subst (Prints a d) (sym (line_of-spaced (text first) (map text rest)))
    (Prints-then a b d _ _ word (Prints-then b c d _ _ words end))
