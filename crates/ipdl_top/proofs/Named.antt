-- The protocols that the items of a document name are there.
use Rattle.std.proofs.Common.{◌≡◌, Bool, true, false, ◌||◌, ℕ, List, [], ◌∷◌, ◌++◌, Option, Some, refl, sym, subst}
use Rattle.std.specs.Prelude.{bytes_eq, if◌then◌else◌}
use Rattle.std.proofs.lemmas.Bool.{true≢false}
use Rattle.std.proofs.lemmas.Slice.Eq.{bytes_eq-Decides}
use Rattle.ipdl_tree.specs.Trees.{Located, Forest, no_trees, tree}
use Rattle.ipdl_forms.specs.Documents.{Document, Entry, symbol_entry, protocol_entry, assumption_entry, theorem_entry}
use Rattle.ipdl_forms.specs.Items.{SpellsDocument, AreEntries, nothing_earlier, earlier_with}
use Rattle.ipdl_forms.specs.Lists.{is_among}
use Rattle.ipdl_forms.specs.Steps.{Earlier}
use Rattle.ipdl_forms.specs.Networks.{Network, network_named}

-- a protocol has the name
abbrev pub IsThere : List Entry → List ℕ → Type 0
IsThere entries name = (network : Network) × (network_named entries name ≡ Some network)

-- the two protocols that an assumption or a theorem names are there
abbrev pub HasSides : List Entry → Entry → Type 0
HasSides entries (symbol_entry n s) = Unit {0}
HasSides entries (protocol_entry name interface body) = Unit {0}
HasSides entries (assumption_entry name left right) = IsThere entries left × IsThere entries right
HasSides entries (theorem_entry name left right lefts rights) = IsThere entries left × IsThere entries right

abbrev pub HaveSides : List Entry → List Entry → Type 0
HaveSides entries [] = Unit {0}
HaveSides entries (item ∷ items) = HasSides entries item × HaveSides entries items

-- ---- protocols are found by their names

either_way : (b : Bool) (first : Network) (later : Option Network) → (network : Network) × (later ≡ Some network) → (network : Network) × ((if b then Some first else later) ≡ Some network)
either_way true first later found = (first, refl)
either_way false first later found = found

same_way : (b : Bool) (first : Network) (later : Option Network) → b ≡ true → (network : Network) × ((if b then Some first else later) ≡ Some network)
same_way true first later e = (first, refl)
same_way false first later e = cc

IsThere-later : (e : Entry) (entries : List Entry) (name : List ℕ) → IsThere entries name → IsThere (e ∷ entries) name
IsThere-later (symbol_entry n s) entries name there = there
IsThere-later (protocol_entry other interface body) entries name there =
    either_way (bytes_eq other name) (record { interface = interface; body = body }) (network_named entries name) there
IsThere-later (assumption_entry other left right) entries name there = there
IsThere-later (theorem_entry other left right lefts rights) entries name there = there

-- each protocol among the items is found by its name
HasName : List Entry → Entry → Type 0
HasName entries (symbol_entry n s) = Unit {0}
HasName entries (protocol_entry name interface body) = IsThere entries name
HasName entries (assumption_entry name left right) = Unit {0}
HasName entries (theorem_entry name left right lefts rights) = Unit {0}

HaveNames : List Entry → List Entry → Type 0
HaveNames entries [] = Unit {0}
HaveNames entries (item ∷ items) = HasName entries item × HaveNames entries items

HasName-later : (e : Entry) (entries : List Entry) (item : Entry) → HasName entries item → HasName (e ∷ entries) item
unfolding HasName
HasName-later e entries (symbol_entry n s) has = tt
HasName-later e entries (protocol_entry name interface body) has = IsThere-later e entries name has
HasName-later e entries (assumption_entry name left right) has = tt
HasName-later e entries (theorem_entry name left right lefts rights) has = tt

HaveNames-later : (e : Entry) (entries items : List Entry) → HaveNames entries items → HaveNames (e ∷ entries) items
unfolding HaveNames
HaveNames-later e entries [] have = tt
HaveNames-later e entries (item ∷ items) have = (HasName-later e entries item have.0, HaveNames-later e entries items have.1)

HasName-first : (e : Entry) (entries : List Entry) → HasName (e ∷ entries) e
unfolding HasName
HasName-first (symbol_entry n s) entries = tt
HasName-first (protocol_entry name interface body) entries =
    same_way (bytes_eq name name) (record { interface = interface; body = body }) (network_named entries name) ((bytes_eq-Decides name name).1 refl)
HasName-first (assumption_entry name left right) entries = tt
HasName-first (theorem_entry name left right lefts rights) entries = tt

HaveNames-all : (entries : List Entry) → HaveNames entries entries
unfolding HaveNames
HaveNames-all [] = tt
HaveNames-all (e ∷ entries) = (HasName-first e entries, HaveNames-later e entries entries (HaveNames-all entries))

-- ---- what is declared earlier is there

AreThere : List Entry → List (List ℕ) → Type 0
AreThere entries names = (name : List ℕ) → is_among names name ≡ true → IsThere entries name

one_of : (b c : Bool) (A : Type 0) → (b ≡ true → A) → (c ≡ true → A) → (b || c) ≡ true → A
one_of true c A first later e = first refl
one_of false c A first later e = later e

or_first : (b c : Bool) → b ≡ true → (b || c) ≡ true
or_first true c e = refl
or_first false c e = cc

or_later : (b c : Bool) → c ≡ true → (b || c) ≡ true
or_later true c e = refl
or_later false c e = e

AreThere-one : (entries : List Entry) (other name : List ℕ) → IsThere entries other → bytes_eq name other ≡ true → IsThere entries name
AreThere-one entries other name there e = subst (IsThere entries) (sym ((bytes_eq-Decides name other).0 e)) there

AreThere-more : (entries : List Entry) (names : List (List ℕ)) (other : List ℕ) → AreThere entries names → IsThere entries other → AreThere entries (names ++ other ∷ [])
unfolding AreThere
AreThere-more entries [] other are there name e =
    one_of (bytes_eq name other) false (IsThere entries name) (AreThere-one entries other name there) (λ f. absurd (true≢false (sym f))) e
AreThere-more entries (n ∷ names) other are there name e =
    one_of (bytes_eq name n) (is_among (names ++ other ∷ []) name) (IsThere entries name)
    (λ first. are name (or_first (bytes_eq name n) (is_among names name) first))
    (λ later. AreThere-more entries names other (λ m f. are m (or_later (bytes_eq m n) (is_among names m) f)) there name later) e

HaveSides-entries : (entries : List Entry) (earlier : Earlier) (items : List Entry) (ts : Forest) → AreEntries earlier items ts → HaveNames entries items → AreThere entries earlier.protocols → HaveSides entries items
unfolding HaveNames HasName AreThere
HaveSides-entries entries earlier [] ts spelled have are = tt
HaveSides-entries entries earlier (e ∷ items) no_trees spelled have are = absurd spelled
HaveSides-entries entries earlier (symbol_entry n s ∷ items) (tree t ts) spelled have are =
    (tt, HaveSides-entries entries (earlier_with (symbol_entry n s) earlier) items ts spelled.1 have.1 are)
HaveSides-entries entries earlier (protocol_entry name interface body ∷ items) (tree t ts) spelled have are =
    (tt, HaveSides-entries entries (earlier_with (protocol_entry name interface body) earlier) items ts spelled.1 have.1 (AreThere-more entries earlier.protocols name are have.0))
HaveSides-entries entries earlier (assumption_entry name left right ∷ items) (tree t ts) spelled have are = (
  (are left spelled.0.2.1, are right spelled.0.2.3),
  HaveSides-entries entries (earlier_with (assumption_entry name left right) earlier) items ts spelled.1 have.1 are,
)
HaveSides-entries entries earlier (theorem_entry name left right lefts rights ∷ items) (tree t ts) spelled have are = (
  (are left spelled.0.2.1, are right spelled.0.2.3),
  HaveSides-entries entries (earlier_with (theorem_entry name left right lefts rights) earlier) items ts spelled.1 have.1 are,
)

-- a document that is spelled has the protocols that it names
pub HaveSides-spelled : (d : Document) (t : Located) → SpellsDocument d t → HaveSides d.entries d.entries
unfolding AreThere
HaveSides-spelled d t spelled =
    HaveSides-entries d.entries nothing_earlier d.entries _ spelled.3 (HaveNames-all d.entries) (λ name e. absurd (true≢false (sym e)))
