-- A node that is put in a set: equal nodes are those of one entry, so that no two entries are the same.
use Rattle.std.proofs.Common.{◌≡◌, ◌⊎◌, inl, inr, ℕ, zero, suc, Bool, true, false, ◌&&◌, List, [], ◌∷◌, ◌++◌, Some, map, if◌then◌else◌, refl, sym, ap, ap₂, ◌∙◌, subst, true≢false}
use Rattle.std.proofs.lemmas.Bool.{and_parts}
use Rattle.std.proofs.lemmas.List.{map-append}
use Rattle.std.specs.Cmp.Lexicographic.{pointwise, bytes_decides}
use Rattle.std.specs.List.{list_any, IsDistinct, AllByRecursion}
use Rattle.std.specs.Prelude.{nat_eq, slice_get}
use Rattle.ipdl_linear.proofs.Booleans.{by_test, and_both}
use Rattle.ipdl_linear.proofs.Numbers.{equal, equal_itself}
use Rattle.ipdl_linear.specs.contracts.node.NodePartialEq.TheImpl.{eq-value}
use Rattle.ipdl_linear.specs.Entries.{Entry, one_entry, variable_entry, product_entry, zero_entry, symbol_entry, sum_entry, entry_of, AreDifferent, IsAdding}
use Rattle.ipdl_linear.specs.declared.node.Node.{Node}
use Rattle.ipdl_linear.specs.declared.node.Node.TheVariants.{One, Variable, Product, AllZero, SymbolBit, Sum}

-- ---- equality

abbrev same_entry : Entry → Entry → Bool
same_entry one_entry one_entry = true
same_entry (variable_entry n i) (variable_entry m j) = nat_eq n m && nat_eq i j
same_entry (product_entry p q) (product_entry r s) = nat_eq p r && nat_eq q s
same_entry (zero_entry ps) (zero_entry qs) = pointwise nat_eq ps qs
same_entry (symbol_entry f ps i) (symbol_entry g qs j) = nat_eq f g && (pointwise nat_eq ps qs && nat_eq i j)
same_entry (sum_entry ks) (sum_entry ls) = pointwise nat_eq ks ls
same_entry _ _ = false

node_eq : (x y : Node) → (eq-value).it x y ≡ same_entry (entry_of x) (entry_of y)
node_eq One One = refl
node_eq (Variable n i) (Variable m j) = refl
node_eq (Product p q) (Product r s) = refl
node_eq (AllZero ps) (AllZero qs) = refl
node_eq (SymbolBit f ps i) (SymbolBit g qs j) = refl
node_eq (Sum ks) (Sum ls) = refl
node_eq _ _ = refl

same_entry-sound : (e f : Entry) → same_entry e f ≡ true → e ≡ f
same_entry-sound one_entry one_entry h = refl
same_entry-sound (variable_entry n i) (variable_entry m j) h = let p = and_parts _ _ h in ap₂ variable_entry (equal n m p.0) (equal i j p.1)
same_entry-sound (product_entry p q) (product_entry r s) h = let x = and_parts _ _ h in ap₂ product_entry (equal p r x.0) (equal q s x.1)
same_entry-sound (zero_entry ps) (zero_entry qs) h = ap zero_entry ((bytes_decides ps qs).0 h)
same_entry-sound (symbol_entry f ps i) (symbol_entry g qs j) h =
    let x = and_parts _ _ h in let y = and_parts _ _ x.1 in
    ap₂ (λ (z : ℕ) (w : List ℕ × ℕ). symbol_entry z w.0 w.1) (equal f g x.0) (ap₂ (λ (w : List ℕ) (z : ℕ). (w, z)) ((bytes_decides ps qs).0 y.0) (equal i j y.1))
same_entry-sound (sum_entry ks) (sum_entry ls) h = ap sum_entry ((bytes_decides ks ls).0 h)
same_entry-sound _ _ h = cc

same_list-itself : (ks : List ℕ) → pointwise nat_eq ks ks ≡ true
same_list-itself [] = refl
same_list-itself (k ∷ ks) = and_both (nat_eq k k) (pointwise nat_eq ks ks) (equal_itself k) (same_list-itself ks)

same_entry-itself : (e : Entry) → same_entry e e ≡ true
same_entry-itself one_entry = refl
same_entry-itself (variable_entry n i) = and_both (nat_eq n n) (nat_eq i i) (equal_itself n) (equal_itself i)
same_entry-itself (product_entry p q) = and_both (nat_eq p p) (nat_eq q q) (equal_itself p) (equal_itself q)
same_entry-itself (zero_entry ps) = same_list-itself ps
same_entry-itself (symbol_entry f ps i) =
    and_both (nat_eq f f) (pointwise nat_eq ps ps && nat_eq i i) (equal_itself f) (and_both (pointwise nat_eq ps ps) (nat_eq i i) (same_list-itself ps) (equal_itself i))
same_entry-itself (sum_entry ks) = same_list-itself ks

same_entry_of_nodes : (x y : Node) → (eq-value).it x y ≡ true → entry_of x ≡ entry_of y
same_entry_of_nodes x y h = same_entry-sound (entry_of x) (entry_of y) (sym (node_eq x y) ∙ h)

nodes_of_same_entry : (x y : Node) → entry_of x ≡ entry_of y → (eq-value).it x y ≡ true
nodes_of_same_entry x y h = node_eq x y ∙ ap (λ e. same_entry e (entry_of y)) h ∙ same_entry-itself (entry_of y)

-- ---- places in lists

module _ {X Y : Type 0} (f : X → Y) where
  mapped_at : (xs : List X) (k : ℕ) (y : Y) → slice_get (map f xs) k ≡ Some y → (x : X) × (slice_get xs k ≡ Some x) × (f x ≡ y)
  mapped_at [] k y h = cc
  mapped_at (x ∷ xs) zero y h = (x, refl, cc)
  mapped_at (x ∷ xs) (suc k) y h = mapped_at xs k y h

  at_mapped : (xs : List X) (k : ℕ) (x : X) → slice_get xs k ≡ Some x → slice_get (map f xs) k ≡ Some (f x)
  at_mapped [] k x h = cc
  at_mapped (y ∷ xs) zero x h = let same : y ≡ x = cc in ap (λ z. Some (f z)) same
  at_mapped (y ∷ xs) (suc k) x h = at_mapped xs k x h

at_end : {X : Type 0} (xs : List X) (k : ℕ) (x : X) (P : X → Type 0) → AllByRecursion P xs → slice_get xs k ≡ Some x → P x
at_end [] k x P all h = cc
at_end (z ∷ xs) zero x P all h = let same : z ≡ x = cc in subst P same all.0
at_end (z ∷ xs) (suc k) x P all h = at_end xs k x P all.1 h

-- keys at two places are not equal
distinct_places : {X : Type 0} (eq : X → X → Bool) (xs : List X) (k l : ℕ) (x y : X) → IsDistinct eq xs → slice_get xs k ≡ Some x → slice_get xs l ≡ Some y → eq x y ≡ true → eq y x ≡ true → k ≡ l
unfolding IsDistinct
distinct_places eq [] k l x y distinct at_k at_l h g = cc
distinct_places eq (z ∷ xs) zero zero x y distinct at_k at_l h g = refl
distinct_places eq (z ∷ xs) zero (suc l) x y distinct at_k at_l h g =
    let first : z ≡ x = cc in absurd (true≢false (sym h ∙ ap (λ w. eq w y) (sym first) ∙ at_end xs l y (λ w. eq z w ≡ false) distinct.0 at_l))
distinct_places eq (z ∷ xs) (suc k) zero x y distinct at_k at_l h g =
    let first : z ≡ y = cc in absurd (true≢false (sym g ∙ ap (λ w. eq w x) (sym first) ∙ at_end xs k x (λ w. eq z w ≡ false) distinct.0 at_k))
distinct_places eq (z ∷ xs) (suc k) (suc l) x y distinct at_k at_l h g = ap suc (distinct_places eq xs k l x y distinct.1 at_k at_l h g)

-- ---- adding

-- the set after a node is put in, and the place where it is
module _ (old new : List Node) (n : ℕ) (node : Node)
    (keys : new ≡ (if list_any ((eq-value).it node) old then old else old ++ node ∷ []))
    (distinct : IsDistinct (eq-value).it new)
    (found : Node) (there : slice_get new n ≡ Some found) (equals : (eq-value).it node found ≡ true) where
  grown : (map entry_of new ≡ map entry_of old) ⊎ (map entry_of new ≡ map entry_of old ++ entry_of node ∷ [])
  grown = by_test (list_any ((eq-value).it node) old)
      (λ t. inl (ap (map entry_of) (keys ∙ ap (λ b. if b then old else old ++ node ∷ []) t)))
      (λ t. inr (ap (map entry_of) (keys ∙ ap (λ b. if b then old else old ++ node ∷ []) t) ∙ map-append entry_of old (node ∷ [])))

  different : AreDifferent (map entry_of new)
  different k l e at_k at_l =
      let x = mapped_at entry_of new k e at_k in let y = mapped_at entry_of new l e at_l in
      distinct_places (eq-value).it new k l x.0 y.0 distinct x.1 y.1
      (nodes_of_same_entry x.0 y.0 (x.2 ∙ sym y.2)) (nodes_of_same_entry y.0 x.0 (y.2 ∙ sym x.2))

  added : IsAdding (map entry_of old) (map entry_of new) n (entry_of node)
  added = record {
    different = different;
    there = at_mapped entry_of new n found there ∙ ap Some (sym (same_entry_of_nodes node found equals));
    grown = grown;
  }

  pub adding : (t : List Entry) → map entry_of old ≡ t → IsAdding t (map entry_of new) n (entry_of node)
  adding t view = subst (λ x. IsAdding x (map entry_of new) n (entry_of node)) view added
