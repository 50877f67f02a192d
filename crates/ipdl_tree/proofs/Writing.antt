-- The text of a group, written part by part, and of a literal, digit by digit.
use Rattle.std.proofs.Common.{◌≡◌, ℕ, suc, ◌+◌, ◌-◌, ◌*◌, ◌^◌, ◌<◌, Bool, true, false, List, [], ◌∷◌, ◌++◌, length, get_or, take, drop, map, codes, refl, sym, ap, ap₂, ◌∙◌, subst, if◌then◌else◌, take-add, arith}
use Rattle.std.proofs.lemmas.List.{append_assoc, append-nil, map_more, length-take, length-map, map-append}
use Rattle.ipdl_tree.proofs.Characters.{eqb-suc-zero}
use Rattle.std.proofs.Common.{one-add}
use Rattle.ipdl_base.specs.Bits.{bit, bit_value, bits_of, number_of}
use Rattle.ipdl_base.proofs.BitsNumbers.{bits_of-one}
use Rattle.ipdl_base.proofs.BitsRanges.{bits_of-joined, joined_below, drop-bits_of}
use Rattle.ipdl_tree.specs.declared.tree.Tree.{Tree}
use Rattle.ipdl_tree.specs.Trees.{Located}
use Rattle.ipdl_tree.specs.Spelling.{bit_digit, tree_text, forest_text, more_text, blank_before}
use Rattle.ipdl_tree.specs.Views.{forest, located, all_located}
use Rattle.ipdl_tree.specs.WellFormed.{IsWellFormed, AreWellFormed}

-- one more part, after another one
more_text-push : (ts : List Located) (t : Located) → more_text (forest (ts ++ t ∷ [])) ≡ more_text (forest ts) ++ (codes " " ++ tree_text t)
more_text-push [] t = append-nil _
more_text-push (u ∷ us) t = ap (λ x. codes " " ++ tree_text u ++ x) (more_text-push us t) ∙ sym (append_assoc (codes " " ++ tree_text u) (more_text (forest us)) (codes " " ++ tree_text t))

-- a blank stands before each part but the first
blank_before-suc : (n : ℕ) → codes " " ≡ blank_before (suc n)
blank_before-suc n = ap (λ b. if b then [] else codes " ") (sym (eqb-suc-zero n))

forest_text-push : (ts : List Located) (t : Located) → forest_text (forest (ts ++ t ∷ [])) ≡ forest_text (forest ts) ++ (blank_before (length ts) ++ tree_text t)
forest_text-push [] t = append-nil _
forest_text-push (u ∷ us) t =
    ap (λ x. tree_text u ++ x) (more_text-push us t)
    ∙ sym (append_assoc (tree_text u) (more_text (forest us)) (codes " " ++ tree_text t))
    ∙ ap (λ b. tree_text u ++ more_text (forest us) ++ (b ++ tree_text t)) (blank_before-suc (length us))

length-take-within : {X : Type 0} (xs : List X) (i : ℕ) → i < length xs → length (take i xs) ≡ i
length-take-within xs i below = omega (arith, length-take i xs)

-- the part at the next index is written
pub forest_text-more : (parts : List Tree) (i : ℕ) (d : Tree) → i < length parts → forest_text (all_located (take (i + 1) parts)) ≡ forest_text (all_located (take i parts)) ++ (blank_before i ++ tree_text (located (get_or parts i d)))
forest_text-more parts i d below =
    let here : length (map located (take i parts)) ≡ i = length-map (take i parts) located ∙ length-take-within parts i below in
    ap (λ ts. forest_text (forest ts)) (map_more located parts i d below)
    ∙ forest_text-push (map located (take i parts)) (located (get_or parts i d))
    ∙ ap (λ n. forest_text (all_located (take i parts)) ++ (blank_before n ++ tree_text (located (get_or parts i d)))) here

-- the blank, and the part at the next index
pub text-joined : (A F B x L M T G : List ℕ) → L ≡ A ++ F → M ≡ L ++ B → T ≡ M ++ x → G ≡ F ++ (B ++ x) → T ≡ A ++ G
text-joined A F B x L M T G l m t g =
    t ∙ ap (λ y. y ++ x) (m ∙ ap (λ y. y ++ B) l) ∙ append_assoc (A ++ F) B x ∙ append_assoc A F (B ++ x) ∙ ap (λ y. A ++ y) (sym g)

AreWellFormed-push : (ts : List Located) (t : Located) → AreWellFormed (forest ts) → IsWellFormed t → AreWellFormed (forest (ts ++ t ∷ []))
AreWellFormed-push [] t all one = (one, tt)
AreWellFormed-push (u ∷ us) t all one = (all.0, AreWellFormed-push us t all.1 one)

-- the part at the next index is well-formed too
pub AreWellFormed-more : (parts : List Tree) (i : ℕ) (d : Tree) → i < length parts → AreWellFormed (all_located (take i parts)) → IsWellFormed (located (get_or parts i d)) → AreWellFormed (all_located (take (i + 1) parts))
AreWellFormed-more parts i d below all one =
    let P : List Located → Type 0 = λ ts. AreWellFormed (forest ts) in
    subst P (sym (map_more located parts i d below)) (AreWellFormed-push (map located (take i parts)) (located (get_or parts i d)) all one)

-- ---- the digits of a literal

number_of-below : (bits : List Bool) → number_of bits < 2 ^ length bits
unfolding number_of
number_of-below [] = omega arith
number_of-below (b ∷ bs) =
    let P : ℕ → Type 0 = λ w. bit_value b * 2 ^ length bs + number_of bs < 2 ^ w in
    subst P (one-add (length bs)) (joined_below (bit_value b) 1 (number_of bs) (length bs) (bit_value-below b) (number_of-below bs))
  where
    bit_value-below : (x : Bool) → bit_value x < 2 ^ 1
    bit_value-below true = omega arith
    bit_value-below false = omega arith

-- bits are those of the number that they spell
bits_of-number_of : (bits : List Bool) → bits_of (length bits) (number_of bits) ≡ bits
unfolding bits_of number_of
bits_of-number_of [] = refl
bits_of-number_of (b ∷ bs) =
    ap (λ w. bits_of w (bit_value b * 2 ^ length bs + number_of bs)) (sym (one-add (length bs)))
    ∙ bits_of-joined 1 (length bs) (bit_value b) (number_of bs) (number_of-below bs)
    ∙ ap₂ (λ x y. x ++ y) (bits_of-one b (bit_value b) refl) (bits_of-number_of bs)

first-bit : (width n : ℕ) → take 1 (bits_of (suc width) n) ≡ bit n width ∷ []
unfolding bits_of
first-bit width n = refl

-- the bit at an index, counted from the left, is one of the number
bit-at : (bits : List Bool) (index : ℕ) → index < length bits → take 1 (drop index bits) ≡ bit (number_of bits) (length bits - 1 - index) ∷ []
bit-at bits index below =
    let n = number_of bits in
    let behind = length bits - 1 - index in
    let all : bits ≡ bits_of (index + suc behind) n = sym (bits_of-number_of bits) ∙ ap (λ w. bits_of w n) (omega arith) in
    ap (λ x. take 1 (drop index x)) all ∙ ap (take 1) (drop-bits_of index (suc behind) n) ∙ first-bit behind n

-- the digits before an index, and the one there
pub digits-more : (bits : List Bool) (index digit : ℕ) → index < length bits → digit ≡ bit_digit (bit (number_of bits) (length bits - 1 - index)) → map bit_digit (take (index + 1) bits) ≡ map bit_digit (take index bits) ++ digit ∷ []
digits-more bits index digit below one =
    ap (map bit_digit) (take-add index 1 bits)
    ∙ map-append bit_digit (take index bits) (take 1 (drop index bits))
    ∙ ap (λ x. map bit_digit (take index bits) ++ map bit_digit x) (bit-at bits index below)
    ∙ ap (λ x. map bit_digit (take index bits) ++ x ∷ []) (sym one)
