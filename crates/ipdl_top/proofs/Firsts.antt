-- The first refusal among items: there is none where no item is refused, and else it is that of the first one.
use Rattle.std.proofs.Common.{◌≡◌, ℕ, zero, suc, ◌+◌, ◌<◌, List, [], ◌∷◌, Option, Some, None, refl, sym, subst, ◌∙◌, arith}
use Rattle.std.specs.Prelude.{◌↔◌, slice_get}
use Rattle.std.specs.Option.{option_or}
use Rattle.std.proofs.lemmas.Option.{same_Some}
use Rattle.ipdl_forms.specs.Documents.{Entry}
use Rattle.ipdl_top.specs.Refusals.{first_refusal, IsFirstRefused}
use Rattle.ipdl_top.specs.Statuses.{Refusal}

-- how items are judged, each by its index
abbrev pub Judge : Type 0
Judge = ℕ → Entry → Option Refusal

-- ---- choices

-- neither of two is there
pub neither : (first later : Option Refusal) → option_or first later ≡ None → (first ≡ None) × (later ≡ None)
neither None later e = (refl, e)
neither (Some r) later e = cc

pub no_first : (first later : Option Refusal) → first ≡ None → option_or first later ≡ later
no_first None later e = refl
no_first (Some r) later e = cc

is_first : (first later : Option Refusal) (r : Refusal) → first ≡ Some r → option_or first later ≡ Some r
is_first None later r e = cc
is_first (Some s) later r e = e

-- ---- none is refused

none_at : (judge : Judge) (start : ℕ) (items : List Entry) → first_refusal judge start items ≡ None → (i n : ℕ) (e : Entry) → n ≡ start + i → slice_get items i ≡ Some e → judge n e ≡ None
none_at judge start [] none i n e is there = cc
none_at judge start (x ∷ items) none zero n e is there =
    let here : start ≡ n = omega (arith, is) in
    subst (λ m. judge m e ≡ None) here
    (subst (λ y. judge start y ≡ None) (same_Some x e there) (neither (judge start x) (first_refusal judge (suc start) items) none).0)
none_at judge start (x ∷ items) none (suc i) n e is there =
    none_at judge (suc start) items (neither (judge start x) (first_refusal judge (suc start) items) none).1 i n e (omega (arith, is)) there

pub first_refusal-nowhere : (judge : Judge) (start : ℕ) (items : List Entry) → ((i n : ℕ) (e : Entry) → n ≡ start + i → slice_get items i ≡ Some e → judge n e ≡ None) → first_refusal judge start items ≡ None
first_refusal-nowhere judge start [] nowhere = refl
first_refusal-nowhere judge start (x ∷ items) nowhere =
    no_first (judge start x) (first_refusal judge (suc start) items) (nowhere 0 start x (omega arith) refl)
    ∙ first_refusal-nowhere judge (suc start) items (λ i n e is there. nowhere (suc i) n e (omega (arith, is)) there)

-- ---- one is refused

-- an item is refused, and none before it is, where the first of the items has this index
record IsFoundFrom (judge : Judge) (start : ℕ) (items : List Entry) (r : Refusal) : Type 0 where
  index : ℕ
  number : ℕ
  is : number ≡ start + index
  item : Entry
  there : slice_get items index ≡ Some item
  refuses : judge number item ≡ Some r
  before : (i n : ℕ) (e : Entry) → n ≡ start + i → i < index → slice_get items i ≡ Some e → judge n e ≡ None

-- the first item is refused
found_here : (judge : Judge) (start : ℕ) (x : Entry) (items : List Entry) (r : Refusal) → judge start x ≡ Some r → IsFoundFrom judge start (x ∷ items) r
found_here judge start x items r e = record {
  index = 0;
  number = start;
  is = omega arith;
  item = x;
  there = refl;
  refuses = e;
  before = λ i n e is less. absurd (omega (arith, less));
}

none_before : (judge : Judge) (start : ℕ) (x : Entry) (items : List Entry) (index : ℕ) → judge start x ≡ None → ((i n : ℕ) (e : Entry) → n ≡ suc start + i → i < index → slice_get items i ≡ Some e → judge n e ≡ None) → (i n : ℕ) (e : Entry) → n ≡ start + i → i < suc index → slice_get (x ∷ items) i ≡ Some e → judge n e ≡ None
none_before judge start x items index none before zero n e is less there =
    let here : start ≡ n = omega (arith, is) in
    subst (λ m. judge m e ≡ None) here (subst (λ y. judge start y ≡ None) (same_Some x e there) none)
none_before judge start x items index none before (suc i) n e is less there = before i n e (omega (arith, is)) (omega (arith, less)) there

-- a later one is
found_later : (judge : Judge) (start : ℕ) (x : Entry) (items : List Entry) (r : Refusal) → judge start x ≡ None → IsFoundFrom judge (suc start) items r → IsFoundFrom judge start (x ∷ items) r
found_later judge start x items r none found = record {
  index = suc found.index;
  number = found.number;
  is = omega (arith, found.is);
  item = found.item;
  there = found.there;
  refuses = found.refuses;
  before = none_before judge start x items found.index none found.before;
}

by_first : (judge : Judge) (start : ℕ) (x : Entry) (items : List Entry) (r : Refusal) (first : Option Refusal) → first ≡ judge start x → option_or (judge start x) (first_refusal judge (suc start) items) ≡ Some r → (first_refusal judge (suc start) items ≡ Some r → IsFoundFrom judge (suc start) items r) → IsFoundFrom judge start (x ∷ items) r
by_first judge start x items r (Some s) is e later =
    found_here judge start x items r (sym is ∙ sym (is_first (judge start x) (first_refusal judge (suc start) items) s (sym is)) ∙ e)
by_first judge start x items r None is e later =
    found_later judge start x items r (sym is)
    (later (sym (no_first (judge start x) (first_refusal judge (suc start) items) (sym is)) ∙ e))

found_from : (judge : Judge) (start : ℕ) (items : List Entry) (r : Refusal) → first_refusal judge start items ≡ Some r → IsFoundFrom judge start items r
found_from judge start [] r e = cc
found_from judge start (x ∷ items) r e =
    by_first judge start x items r (judge start x) refl e (λ later. found_from judge (suc start) items r later)

is_found : (judge : Judge) (start : ℕ) (items : List Entry) (i n : ℕ) (e : Entry) (r : Refusal) → n ≡ start + i → slice_get items i ≡ Some e → judge n e ≡ Some r → ((j m : ℕ) (x : Entry) → m ≡ start + j → j < i → slice_get items j ≡ Some x → judge m x ≡ None) → first_refusal judge start items ≡ Some r
is_found judge start [] i n e r is there refuses before = cc
is_found judge start (x ∷ items) zero n e r is there refuses before =
    let here : n ≡ start = omega (arith, is) in
    is_first (judge start x) (first_refusal judge (suc start) items) r
    (subst (λ y. judge start y ≡ Some r) (sym (same_Some x e there)) (subst (λ m. judge m e ≡ Some r) here refuses))
is_found judge start (x ∷ items) (suc i) n e r is there refuses before =
    no_first (judge start x) (first_refusal judge (suc start) items) (before 0 start x (omega arith) (omega arith) refl)
    ∙ is_found judge (suc start) items i n e r (omega (arith, is)) there refuses
    (λ j m y is' less there'. before (suc j) m y (omega (arith, is')) (omega (arith, less)) there')

-- ---- from the first index on

pub none_refused : (judge : Judge) (items : List Entry) → (first_refusal judge 0 items ≡ None) ↔ ((i : ℕ) (e : Entry) → slice_get items i ≡ Some e → judge i e ≡ None)
none_refused judge items = (
  λ none i e there. none_at judge 0 items none i i e (omega arith) there,
  λ nowhere. first_refusal-nowhere judge 0 items
      (λ i n e is there. let same : i ≡ n = omega (arith, is) in subst (λ m. judge m e ≡ None) same (nowhere i e there)),
)

to_first : (judge : Judge) (items : List Entry) (r : Refusal) → IsFoundFrom judge 0 items r → IsFirstRefused judge items r
to_first judge items r found = record {
  index = found.index;
  item = found.item;
  there = found.there;
  refuses = let same : found.number ≡ found.index = omega (arith, found.is) in subst (λ m. judge m found.item ≡ Some r) same found.refuses;
  none_before = λ i e less there. found.before i i e (omega arith) less there;
}

pub first_refused : (judge : Judge) (items : List Entry) (r : Refusal) → (first_refusal judge 0 items ≡ Some r) ↔ IsFirstRefused judge items r
first_refused judge items r = (
  λ e. to_first judge items r (found_from judge 0 items r e),
  λ first. is_found judge 0 items first.index first.index first.item r (omega arith) first.there first.refuses
      (λ j m x is less there. let same : j ≡ m = omega (arith, is) in subst (λ k. judge k x ≡ None) same (first.none_before j x less there)),
)
