-- The number of a name, in a list of symbols and in the map that holds them.
use Rattle.std.proofs.Common.{◌≡◌, ◌≢◌, ℕ, zero, suc, ◌+◌, ◌^◌, ◌<◌, ◌⊎◌, inl, inr, Bool, true, false, List, [], ◌∷◌, ◌++◌, length, get_or, slice_get, position, All, AllPairs, Option, None, Some, is_some, bytes_eq, refl, sym, ap, subst, ◌∙◌, lt-ltb, arith}
use Rattle.std.specs.List.{list_any}
use Rattle.std.specs.Option.{option_map}
use Rattle.std.specs.Map.{keys_of, values_of, lookup}
use Rattle.std.proofs.lemmas.Bool.{false≢true, false_from_ne_true}
use Rattle.std.proofs.lemmas.List.{get_or_append_left, get_or_push, length_push, length-map, map_push}
use Rattle.std.proofs.lemmas.List.Elements.{All-push, All-same}
use Rattle.std.proofs.lemmas.List.Folds.{list_any_at}
use Rattle.std.proofs.lemmas.List.Quantifiers.{position-Some}
use Rattle.std.proofs.lemmas.List.Sums.{position_or_len_is}
use Rattle.std.proofs.lemmas.Map.Entries.{length-values_of}
use Rattle.std.proofs.lemmas.Map.Made.{is_some-lookup}
use Rattle.std.proofs.lemmas.Option.{same_Some, slice_get-get_or, slice_get-map, slice_get_within, get_or_from_slice_get}
use Rattle.std.proofs.lemmas.Slice.Eq.{bytes_eq-Decides}
use Rattle.indexmap.specs.IndexMap.{IndexMap, insert_entry}
use Rattle.indexmap.proofs.CallerLemmas.{insert_entry-new}
use Rattle.ipdl_sig.specs.declared.symbol.Symbol.{Symbol}
use Rattle.ipdl_sig.specs.Symbols.{names_of, has_symbol, symbol_number, IsSymbol, AreNumbered, KeepsSymbols}

-- the first place that passes a test
position-is : (p : List ℕ → Bool) (xs : List (List ℕ)) (n : ℕ) → n < length xs → ((k : ℕ) → k < n → p (get_or xs k []) ≡ false) → p (get_or xs n []) ≡ true → position p xs ≡ Some n
position-is p xs n within before here =
    let at = position_or_len_is p xs n [] (omega arith) before (λ _. here) in
    rw (at, lt-ltb n (length xs) within) refl

-- it stays where the list grows
position-push : (p : List ℕ → Bool) (xs : List (List ℕ)) (y : List ℕ) (n : ℕ) → position p xs ≡ Some n → position p (xs ++ y ∷ []) ≡ Some n
position-push p xs y n at =
    let facts = position-Some p xs n [] at in
    let kept = λ (k : ℕ) (below : k < length xs). get_or_append_left xs (y ∷ []) [] k below in
    position-is p (xs ++ y ∷ []) n (omega (arith, length_push xs y, facts.0))
    (λ k below. ap p (kept k (omega (arith, facts.0))) ∙ facts.2 k below)
    (ap p (kept n facts.0) ∙ facts.1)

-- a new element is found at the end
position-push_new : (p : List ℕ → Bool) (xs : List (List ℕ)) (y : List ℕ) → list_any p xs ≡ false → p y ≡ true → position p (xs ++ y ∷ []) ≡ Some (length xs)
position-push_new p xs y none passes =
    position-is p (xs ++ y ∷ []) (length xs) (omega (arith, length_push xs y))
    (λ k below. ap p (get_or_append_left xs (y ∷ []) [] k below) ∙ false_from_ne_true (p (get_or xs k [])) (λ yes. false≢true (sym none ∙ list_any_at p xs k [] below yes)))
    (ap p (get_or_push xs y [] (length xs) refl) ∙ passes)

-- an element of a longer list is one of the list, or the last one
slice_get-push : {X : Type 0} (xs : List X) (y : X) (n : ℕ) (x : X) → slice_get (xs ++ y ∷ []) n ≡ Some x → (slice_get xs n ≡ Some x) ⊎ ((n ≡ length xs) × (x ≡ y))
slice_get-push [] y zero x e = inr (refl, sym (same_Some y x e))
slice_get-push [] y (suc n) x e = cc
slice_get-push (z ∷ zs) y zero x e = inl e
slice_get-push (z ∷ zs) y (suc n) x e =
    elim (slice_get-push zs y n x e) [ inl before ↦ inl before | inr last ↦ inr (ap suc last.0, last.1) ]

-- an option with no value
none_from : {X : Type 0} (o : Option X) → is_some o ≡ false → o ≡ None
none_from None none = refl
none_from (Some x) none = cc

-- the names of one symbol more
names_of-push : (symbols : List Symbol) (s : Symbol) → names_of (symbols ++ s ∷ []) ≡ names_of symbols ++ s.name ∷ []
names_of-push symbols s = map_push (λ (t : Symbol). t.name) symbols s

-- a symbol of a new name has the next number, and the others keep theirs
AreNumbered-push : (symbols : List Symbol) (s : Symbol) → AreNumbered symbols → has_symbol symbols s.name ≡ false → AreNumbered (symbols ++ s ∷ [])
AreNumbered-push symbols s numbered new n t at =
    elim (slice_get-push symbols s n t at) [
      | inl before ↦ ap (position (bytes_eq t.name)) (names_of-push symbols s) ∙ position-push (bytes_eq t.name) (names_of symbols) s.name n (numbered n t before)
      | inr last ↦ ap (position (bytes_eq t.name)) (names_of-push symbols s) ∙ position-push_new (bytes_eq t.name) (names_of symbols) s.name (ap (λ u. has_symbol symbols u.name) last.1 ∙ new) ((bytes_eq-Decides t.name s.name).1 (ap (λ u. u.name) last.1)) ∙ ap Some (length-map symbols (λ u. u.name) ∙ sym last.0)
    ]

-- the symbols of one entry more
pub values_of-push : (entries more : List (List ℕ × Symbol)) (symbols : List Symbol) (s : Symbol) → values_of entries ≡ symbols → more ≡ entries ++ (s.name, s) ∷ [] → values_of more ≡ symbols ++ s ∷ []
values_of-push entries more symbols s are is =
    ap values_of is ∙ map_push (λ (e : List ℕ × Symbol). e.1) entries (s.name, s) ∙ ap (λ list. list ++ s ∷ []) are

-- one entry more, for a symbol of a new name
pub KeepsSymbols-push : (entries more : List (List ℕ × Symbol)) (symbols : List Symbol) (s : Symbol) → KeepsSymbols entries → values_of entries ≡ symbols → IsSymbol s → has_symbol symbols s.name ≡ false → length symbols + 1 < 2 ^ 32 → more ≡ entries ++ (s.name, s) ∷ [] → KeepsSymbols more
KeepsSymbols-push entries more symbols s keeps are formed new room is =
    let values = values_of-push entries more symbols s are is in
    let all = subst (All IsSymbol) are keeps.formed in
    record {
      keys = ap keys_of is ∙ map_push (λ (e : List ℕ × Symbol). e.0) entries (s.name, s) ∙ ap (λ names. names ++ s.name ∷ []) (keeps.keys ∙ ap names_of are) ∙ sym (names_of-push symbols s) ∙ ap names_of (sym values);
      formed = All-same IsSymbol (values_of more) (symbols ++ s ∷ []) values (All-push IsSymbol symbols s all formed);
      numbered = subst AreNumbered (sym values) (AreNumbered-push symbols s (subst AreNumbered are keeps.numbered) new);
      few = omega (arith, length-values_of more, ap length values, length_push symbols s);
    }

-- the symbols of different numbers have different names
pub AllPairs-numbered : (symbols : List Symbol) → AreNumbered symbols → AllPairs (λ a b. a.name ≢ b.name) symbols
AllPairs-numbered symbols numbered i j d before within same =
    let first = numbered i (get_or symbols i d) (slice_get-get_or symbols i d (omega arith)) in
    let second = numbered j (get_or symbols j d) (slice_get-get_or symbols j d within) in
    let one : i ≡ j = same_Some i j (sym first ∙ ap (symbol_number symbols) same ∙ second) in
    omega arith

-- a look-up finds the names that symbols have
pub is_some-lookup_symbols : (entries : List (List ℕ × Symbol)) (symbols : List Symbol) (name : List ℕ) → KeepsSymbols entries → values_of entries ≡ symbols → is_some (lookup (bytes_eq name) entries) ≡ has_symbol symbols name
is_some-lookup_symbols entries symbols name keeps are =
    is_some-lookup (bytes_eq name) entries ∙ ap (list_any (bytes_eq name)) (keeps.keys ∙ ap names_of are)

-- the number of a name is that of a symbol that has it
pub names_of-symbol_number : (symbols : List Symbol) (name : List ℕ) (n : ℕ) → symbol_number symbols name ≡ Some n → slice_get (names_of symbols) n ≡ Some name
names_of-symbol_number symbols name n at =
    let facts = position-Some (bytes_eq name) (names_of symbols) n [] at in
    slice_get-get_or (names_of symbols) n [] facts.0 ∙ ap Some (sym ((bytes_eq-Decides name (get_or (names_of symbols) n [])).0 facts.1))

-- the number that the map finds is that of the name
pub symbol_number-place : (entries : List (List ℕ × Symbol)) (symbols : List Symbol) (name : List ℕ) → KeepsSymbols entries → values_of entries ≡ symbols → symbol_number symbols name ≡ position (bytes_eq name) (keys_of entries)
symbol_number-place entries symbols name keeps are =
    ap (position (bytes_eq name)) (sym (keeps.keys ∙ ap names_of are))

-- what a signature says of its symbol of a number
pub record IsAt (symbols : List Symbol) (n : ℕ) (s : Symbol) : Type 0 where
  pub at : slice_get symbols n ≡ Some s
  pub formed : IsSymbol s
  pub own_number : symbol_number symbols s.name ≡ Some n

-- the symbol of an entry
pub IsAt-entry : (entries : List (List ℕ × Symbol)) (symbols : List Symbol) (n : ℕ) (name : List ℕ) (s : Symbol) → KeepsSymbols entries → values_of entries ≡ symbols → Some (name, s) ≡ slice_get entries n → IsAt symbols n s
IsAt-entry entries symbols n name s keeps are entry =
    let there : slice_get (values_of entries) n ≡ Some s = slice_get-map (λ (e : List ℕ × Symbol). e.1) entries n ∙ ap (option_map (λ (e : List ℕ × Symbol). e.1)) (sym entry) in
    subst (λ list. IsAt list n s) are (record {
      at = there;
      formed = subst IsSymbol (get_or_from_slice_get (values_of entries) n s s there) (keeps.formed n s (slice_get_within (values_of entries) n s there));
      own_number = keeps.numbered n s there;
    })

-- there is no symbol where there is no entry
pub slice_get-symbols_none : (entries : List (List ℕ × Symbol)) (symbols : List Symbol) (n : ℕ) → values_of entries ≡ symbols → None ≡ slice_get entries n → None ≡ slice_get symbols n
slice_get-symbols_none entries symbols n are at =
    sym (ap (λ list. slice_get list n) (sym are) ∙ slice_get-map (λ (e : List ℕ × Symbol). e.1) entries n ∙ ap (option_map (λ (e : List ℕ × Symbol). e.1)) (sym at))

-- a symbol of a new name goes last, under that name
pub insert_entry-symbol : {S : Type 0} (m : IndexMap (List ℕ) Symbol S) (more : List (List ℕ × Symbol)) (symbols : List Symbol) (key : List ℕ) (s : Symbol) → KeepsSymbols m.entries → values_of m.entries ≡ symbols → has_symbol symbols s.name ≡ false → key ≡ s.name → more ≡ insert_entry bytes_eq m.entries key s → more ≡ m.entries ++ (s.name, s) ∷ []
insert_entry-symbol m more symbols key s keeps are new named put =
    let absent = none_from (lookup (bytes_eq s.name) m.entries) (is_some-lookup_symbols m.entries symbols s.name keeps are ∙ new) in
    put ∙ ap (λ name. insert_entry bytes_eq m.entries name s) named ∙ insert_entry-new bytes_eq m s.name s absent
