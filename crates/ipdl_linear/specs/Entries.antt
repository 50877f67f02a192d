-- The numbered atoms and forms of the program, and the atoms and forms that a number stands for. Numbers are positions in
-- one list of entries, and no two entries are the same.
use Rattle.std.specs.Prelude.{◌≡◌, ◌⊎◌, ℕ, Bool, true, false, not, ◌&&◌, List, [], ◌∷◌, ◌++◌, Option, None, Some, min, max, nat_eq, slice_get}
use Rattle.ipdl_linear.specs.LinearForms.{Atom, one, variable_bit, product, all_zero, symbol_bit, Form, nothing, adding, Forms, no_forms, forms, forms_of}
use Rattle.ipdl_linear.specs.Numbers.{has, IsIncreasing}
use Rattle.ipdl_linear.specs.declared.node.Node.{Node}
use Rattle.ipdl_linear.specs.declared.node.Node.TheVariants.{One, Variable, Product, AllZero, SymbolBit, Sum}

-- an atom over the numbers of forms, or a form over the numbers of its atoms
pub data Entry : Type 0 where
  one_entry : Entry
  variable_entry : (number place : ℕ) → Entry
  product_entry : (lesser greater : ℕ) → Entry
  zero_entry : (forms : List ℕ) → Entry
  symbol_entry : (symbol : ℕ) → (forms : List ℕ) → (place : ℕ) → Entry
  sum_entry : (atoms : List ℕ) → Entry

-- the entry that the program's node is
abbrev pub entry_of : Node → Entry
entry_of One = one_entry
entry_of (Variable n i) = variable_entry n i
entry_of (Product p q) = product_entry p q
entry_of (AllZero ps) = zero_entry ps.items
entry_of (SymbolBit f ps i) = symbol_entry f ps.items i
entry_of (Sum ks) = sum_entry ks.items

-- the atoms of a form, and none where there is no form
abbrev pub atoms_of : Option Entry → List ℕ
atoms_of None = []
atoms_of (Some one_entry) = []
atoms_of (Some (variable_entry n i)) = []
atoms_of (Some (product_entry i j)) = []
atoms_of (Some (zero_entry ns)) = []
atoms_of (Some (symbol_entry f ns i)) = []
atoms_of (Some (sum_entry ks)) = ks

-- ---- what numbers stand for

-- the numbers of a set but one
abbrev pub but : (ℕ → Bool) → ℕ → ℕ → Bool
but s k m = s m && not (nat_eq k m)

-- the entry is a sum, and what is said holds of the set of its atoms
abbrev pub IsSum : List Entry → ℕ → ((ℕ → Bool) → Type 0) → Type 0
IsSum t n Holds = (ks : List ℕ) × (slice_get t n ≡ Some (sum_entry ks)) × Holds (has ks)

-- the number is that of the atom; the set of numbers is that of the form's atoms; the numbers are those of the forms
abbrev mutual
  pub AtomStands : List Entry → ℕ → Atom → Type 0
  AtomStands t k one = slice_get t k ≡ Some one_entry
  AtomStands t k (variable_bit n i) = slice_get t k ≡ Some (variable_entry n i)
  AtomStands t k (product p q) =
      (i : ℕ) × (j : ℕ) × (slice_get t k ≡ Some (product_entry (min i j) (max i j)))
      × IsSum t i (λ s. AtomsStand t s p) × IsSum t j (λ s. AtomsStand t s q)
  AtomStands t k (all_zero ps) = (ns : List ℕ) × (slice_get t k ≡ Some (zero_entry ns)) × FormsStand t ns ps
  AtomStands t k (symbol_bit f ps i) = (ns : List ℕ) × (slice_get t k ≡ Some (symbol_entry f ns i)) × FormsStand t ns ps

  pub AtomsStand : List Entry → (ℕ → Bool) → Form → Type 0
  AtomsStand t s nothing = (m : ℕ) → s m ≡ false
  AtomsStand t s (adding a p) = (k : ℕ) × (s k ≡ true) × AtomStands t k a × AtomsStand t (but s k) p

  pub FormsStand : List Entry → List ℕ → Forms → Type 0
  FormsStand t [] no_forms = Unit {0}
  FormsStand t (n ∷ ns) (forms p ps) = IsSum t n (λ s. AtomsStand t s p) × FormsStand t ns ps
  FormsStand t _ _ = ⊥

-- the number is that of the form
abbrev pub FormStands : List Entry → ℕ → Form → Type 0
FormStands t n p = IsSum t n (λ s. AtomsStand t s p)

-- the numbers are those of the forms, in their order
abbrev pub AllStand : List Entry → List ℕ → List Form → Type 0
AllStand t ns ps = FormsStand t ns (forms_of ps)

-- ---- what is kept

-- the numbers of the empty form, of the atom 1 and of the form of the bit 1
abbrev pub nothing_number : ℕ
nothing_number = 0

abbrev pub one_number : ℕ
one_number = 1

abbrev pub one_form_number : ℕ
one_form_number = 2

-- no two numbers have the same entry
abbrev pub AreDifferent : List Entry → Type 0
AreDifferent t = (k l : ℕ) (e : Entry) → slice_get t k ≡ Some e → slice_get t l ≡ Some e → k ≡ l

pub record IsNumbering (t : List Entry) : Type 0 where
  pub different : AreDifferent t
  pub increasing : (n : ℕ) (ks : List ℕ) → slice_get t n ≡ Some (sum_entry ks) → IsIncreasing ks
  pub nothing_there : slice_get t nothing_number ≡ Some (sum_entry [])
  pub one_there : slice_get t one_number ≡ Some one_entry
  pub one_form_there : slice_get t one_form_number ≡ Some (sum_entry (one_number ∷ []))

-- all entries keep their numbers
abbrev pub Keeps : List Entry → List Entry → Type 0
Keeps t u = (k : ℕ) (e : Entry) → slice_get t k ≡ Some e → slice_get u k ≡ Some e

-- The entry has the number afterwards. It was there before, or it is put last.
pub record IsAdding (t u : List Entry) (n : ℕ) (e : Entry) : Type 0 where
  pub different : AreDifferent u
  pub there : slice_get u n ≡ Some e
  pub grown : (u ≡ t) ⊎ (u ≡ t ++ e ∷ [])

-- what was a numbering still is one, and all entries keep their numbers
pub record IsGrowth (t u : List Entry) : Type 0 where
  pub numbering : IsNumbering t → IsNumbering u
  pub keeps : Keeps t u

-- An entry that is no form has a number afterwards, and this is the number of the form with it alone.
pub record IsSingle (t u : List Entry) (n : ℕ) (e : Entry) : Type 0 where
  pub growth : ((ks : List ℕ) → e ≡ sum_entry ks → ⊥) → IsGrowth t u
  pub atom : ℕ
  pub there : slice_get u atom ≡ Some e
  pub form : slice_get u n ≡ Some (sum_entry (atom ∷ []))

-- ---- operations on numbers

-- a number made out of two stands for the operation on what they stand for
abbrev pub Combines : (Form → Form → Form) → List Entry → List Entry → ℕ → ℕ → ℕ → Type 0
Combines op t u i j n = IsNumbering t → (p q : Form) → FormStands t i p → FormStands t j q → FormStands u n (op p q)
