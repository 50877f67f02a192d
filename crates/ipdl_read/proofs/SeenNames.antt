-- The names that a map holds.
use Rattle.std.proofs.Common.{◌≡◌, ℕ, false, List, [], ◌∷◌, ◌++◌, Option, refl, None, Some, is_some, bytes_eq, ap, ◌∙◌}
use Rattle.std.specs.List.{list_any}
use Rattle.std.specs.Map.{keys_of, lookup}
use Rattle.std.proofs.lemmas.List.{map_push}
use Rattle.std.proofs.lemmas.Map.Made.{is_some-lookup}
use Rattle.indexmap.specs.IndexMap.{IndexMap, insert_entry}
use Rattle.indexmap.proofs.CallerLemmas.{insert_entry-new}
use Rattle.ipdl_forms.specs.Lists.{is_among}

-- a look-up finds the names that are there
pub is_some-lookup_names : {V : Type 0} (entries : List (List ℕ × V)) (names : List (List ℕ)) (name : List ℕ) → keys_of entries ≡ names → is_some (lookup (bytes_eq name) entries) ≡ is_among names name
is_some-lookup_names entries names name are =
    is_some-lookup (bytes_eq name) entries ∙ ap (list_any (bytes_eq name)) are

-- an option with no value
none_from : {X : Type 0} (o : Option X) → is_some o ≡ false → o ≡ None
none_from None none = refl
none_from (Some x) none = cc

-- a new name goes last
pub keys_of-insert_new : {V S : Type 0} (m : IndexMap (List ℕ) V S) (more : List (List ℕ × V)) (names : List (List ℕ)) (name : List ℕ) (v : V) → keys_of m.entries ≡ names → is_among names name ≡ false → more ≡ insert_entry bytes_eq m.entries name v → keys_of more ≡ names ++ name ∷ []
keys_of-insert_new {V} m more names name v are new put =
    let absent = none_from (lookup (bytes_eq name) m.entries) (is_some-lookup_names m.entries names name are ∙ new) in
    ap keys_of (put ∙ insert_entry-new bytes_eq m name v absent) ∙ map_push (λ (e : List ℕ × V). e.0) m.entries (name, v) ∙ ap (λ ns. ns ++ name ∷ []) are
