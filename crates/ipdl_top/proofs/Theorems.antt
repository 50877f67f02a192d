-- No test of a theorem fails where, and only where, all theorems are proved by their scripts and the chains are short.
use Rattle.std.proofs.Common.{◌≡◌, ℕ, suc, ◌+◌, ◌≤◌, nat_lt, Bool, true, false, List, [], ◌∷◌, ◌++◌, ◌<◌, ◌&&◌, map, get_or, length, take, drop, Option, Some, None, refl, sym, ap, ap₂, subst, ◌∙◌, append_assoc, append-nil, length-append, arith}
use Rattle.std.proofs.lemmas.Bool.{le-ltb, ltb-false}
use Rattle.std.proofs.Math.Seq.{take-append_seam, take-suc, drop-cons}
use Rattle.std.proofs.lemmas.List.{map-append, take-map, take_all, length-map}
use Rattle.std.specs.Prelude.{option_map, if◌then◌else◌}
use Rattle.ipdl_base.specs.Limits.{limit_number}
use Rattle.ipdl_base.specs.declared.limit.Limit.TheVariants.{Output}
use Rattle.ipdl_chain.specs.ChainTexts.{accepted_line, assumptions_in}
use Rattle.ipdl_forms.specs.Documents.{Document, Entry, symbol_entry, protocol_entry, assumption_entry, theorem_entry, document_of, entry_of}
use Rattle.ipdl_forms.specs.declared.document.Document.{Document as Held}
use Rattle.ipdl_forms.specs.declared.document.Item.{Item}
use Rattle.ipdl_script.proofs.ScriptLaws.{chain_exactly}
use Rattle.ipdl_script.proofs.StepTests.{none_of_map}
use Rattle.ipdl_script.specs.Known.{Proved}
use Rattle.ipdl_script.specs.Scripts.{first_wrong}
use Rattle.ipdl_sig.specs.declared.symbol.Symbol.{Symbol}
use Rattle.ipdl_term.specs.Steps.{Step}
use Rattle.ipdl_top.proofs.Firsts.{neither, no_first}
use Rattle.ipdl_top.proofs.ItemTypes.{passed, not_refused}
use Rattle.ipdl_top.proofs.Named.{HasSides, HaveSides}
use Rattle.ipdl_top.proofs.Stops.{IsStop-first, IsStop-same}
use Rattle.ipdl_top.specs.Chains.{Claim, claim_between, claim_chain, theorems_with, theorems_after, theorems_before, claim_text, item_neighbours, items_neighbours, item_text, items_text, theorem_count, chains_text, proved_text}
use Rattle.ipdl_forms.specs.Networks.{Network, network_named}
use Rattle.ipdl_top.specs.Refusals.{first_refusal}
use Rattle.ipdl_top.specs.Scripts.{wrong_refusal, length_refusal, claim_refusal, theorem_refusal, judged_by_script, script_refusal, HasChain, IsProvedItem, AreProved, IsProvedDocument, HasShortChains}
use Rattle.ipdl_top.specs.Statuses.{Refusal}
use Rattle.ipdl_top.specs.Told.{IsStop}
use Rattle.ipdl_top.specs.declared.refusal.Stop.{Stop}

pub none_mapped : {X : Type 0} (f : X → Refusal) (found : Option X) → found ≡ None → option_map f found ≡ None
none_mapped f None e = refl
none_mapped f (Some x) e = cc

-- ---- one theorem

length_refusal-none : (theorem : List ℕ) (written : ℕ) → length_refusal theorem written ≡ None → written ≤ limit_number Output
length_refusal-none theorem written e =
    let fits = passed (nat_lt (limit_number Output) written) _ _ e in ltb-false (limit_number Output) written fits.0

pub length_refusal-short : (theorem : List ℕ) (written : ℕ) → written ≤ limit_number Output → length_refusal theorem written ≡ None
length_refusal-short theorem written fits =
    not_refused (nat_lt (limit_number Output) written) _ _ (le-ltb (limit_number Output) written fits)

claim_refusal-none : (symbols : List Symbol) (assumptions : List (List ℕ)) (neighbours written : ℕ) (claim : Claim) → claim_refusal symbols assumptions neighbours written (Some claim) ≡ None → HasChain neighbours (Some claim) × (written + length (claim_text symbols assumptions (Some claim)) ≤ limit_number Output)
claim_refusal-none symbols assumptions neighbours written claim e =
    let wrong = wrong_refusal symbols claim.name claim.theorem.lefts claim.theorem.rights in
    let all : ℕ = written + length (claim_text symbols assumptions (Some claim)) in
    let both = neither (option_map wrong (first_wrong claim.setting neighbours claim.theorem)) (length_refusal claim.name all) e in (
      (chain_exactly claim.setting neighbours claim.theorem (claim_chain claim)).1
          (none_of_map wrong (first_wrong claim.setting neighbours claim.theorem) both.0, refl),
      length_refusal-none claim.name all both.1,
    )

claim_refusal-proved : (symbols : List Symbol) (assumptions : List (List ℕ)) (neighbours written : ℕ) (claim : Claim) → HasChain neighbours (Some claim) → written + length (claim_text symbols assumptions (Some claim)) ≤ limit_number Output → claim_refusal symbols assumptions neighbours written (Some claim) ≡ None
claim_refusal-proved symbols assumptions neighbours written claim has fits =
    let wrong = wrong_refusal symbols claim.name claim.theorem.lefts claim.theorem.rights in
    let all : ℕ = written + length (claim_text symbols assumptions (Some claim)) in
    let right = ((chain_exactly claim.setting neighbours claim.theorem (claim_chain claim)).0 has).0 in
    no_first (option_map wrong (first_wrong claim.setting neighbours claim.theorem)) (length_refusal claim.name all)
    (none_mapped wrong (first_wrong claim.setting neighbours claim.theorem) right)
    ∙ length_refusal-short claim.name all fits

-- of two protocols that are there
between-none : (symbols : List Symbol) (entries : List Entry) (theorems : List Proved) (assumptions : List (List ℕ)) (neighbours written : ℕ) (name left right : List ℕ) (lefts rights : List Step) (from to : Option Network) (l r : Network) → from ≡ Some l → to ≡ Some r → claim_refusal symbols assumptions neighbours written (claim_between symbols entries theorems name left right lefts rights from to) ≡ None → HasChain neighbours (claim_between symbols entries theorems name left right lefts rights from to) × (written + length (claim_text symbols assumptions (claim_between symbols entries theorems name left right lefts rights from to)) ≤ limit_number Output)
between-none symbols entries theorems assumptions neighbours written name left right lefts rights None to l r is is' e = cc
between-none symbols entries theorems assumptions neighbours written name left right lefts rights (Some from) None l r is is' e = cc
between-none symbols entries theorems assumptions neighbours written name left right lefts rights (Some from) (Some to) l r is is' e =
    claim_refusal-none symbols assumptions neighbours written _ e

between-proved : (symbols : List Symbol) (entries : List Entry) (theorems : List Proved) (assumptions : List (List ℕ)) (neighbours written : ℕ) (name left right : List ℕ) (lefts rights : List Step) (from to : Option Network) → HasChain neighbours (claim_between symbols entries theorems name left right lefts rights from to) → written + length (claim_text symbols assumptions (claim_between symbols entries theorems name left right lefts rights from to)) ≤ limit_number Output → claim_refusal symbols assumptions neighbours written (claim_between symbols entries theorems name left right lefts rights from to) ≡ None
between-proved symbols entries theorems assumptions neighbours written name left right lefts rights None to has fits = absurd has
between-proved symbols entries theorems assumptions neighbours written name left right lefts rights (Some from) None has fits = absurd has
between-proved symbols entries theorems assumptions neighbours written name left right lefts rights (Some from) (Some to) has fits =
    claim_refusal-proved symbols assumptions neighbours written _ has fits

theorem_refusal-none : (symbols : List Symbol) (entries : List Entry) (theorems : List Proved) (neighbours written : ℕ) (item : Entry) → HasSides entries item → written ≤ limit_number Output → theorem_refusal symbols entries theorems neighbours written item ≡ None → IsProvedItem symbols entries theorems neighbours item × (written + length (item_text symbols entries theorems item) ≤ limit_number Output)
theorem_refusal-none symbols entries theorems neighbours written (symbol_entry n s) has fits e = (tt, omega (arith, fits))
theorem_refusal-none symbols entries theorems neighbours written (protocol_entry name interface body) has fits e = (tt, omega (arith, fits))
theorem_refusal-none symbols entries theorems neighbours written (assumption_entry name left right) has fits e = (tt, omega (arith, fits))
theorem_refusal-none symbols entries theorems neighbours written (theorem_entry name left right lefts rights) has fits e =
    between-none symbols entries theorems (assumptions_in entries) neighbours written name left right lefts rights (network_named entries left) (network_named entries right) has.0.0 has.1.0 has.0.1 has.1.1 e

theorem_refusal-proved : (symbols : List Symbol) (entries : List Entry) (theorems : List Proved) (neighbours written : ℕ) (item : Entry) → IsProvedItem symbols entries theorems neighbours item → written + length (item_text symbols entries theorems item) ≤ limit_number Output → theorem_refusal symbols entries theorems neighbours written item ≡ None
theorem_refusal-proved symbols entries theorems neighbours written (symbol_entry n s) proved fits = refl
theorem_refusal-proved symbols entries theorems neighbours written (protocol_entry name interface body) proved fits = refl
theorem_refusal-proved symbols entries theorems neighbours written (assumption_entry name left right) proved fits = refl
theorem_refusal-proved symbols entries theorems neighbours written (theorem_entry name left right lefts rights) proved fits =
    between-proved symbols entries theorems (assumptions_in entries) neighbours written name left right lefts rights (network_named entries left) (network_named entries right) proved fits

-- ---- the chains so far

module _ (symbols : List Symbol) (entries : List Entry) where
  theorems_after-next : (theorems : List Proved) (done : List Entry) (item : Entry) → theorems_after symbols entries theorems (done ++ item ∷ []) ≡ theorems_with symbols entries (theorems_after symbols entries theorems done) item
  theorems_after-next theorems [] item = refl
  theorems_after-next theorems (x ∷ done) item = theorems_after-next (theorems_with symbols entries theorems x) done item

  items_text-append : (theorems : List Proved) (xs ys : List Entry) → items_text symbols entries theorems (xs ++ ys) ≡ items_text symbols entries theorems xs ++ items_text symbols entries (theorems_after symbols entries theorems xs) ys
  items_text-append theorems [] ys = refl
  items_text-append theorems (x ∷ xs) ys =
      ap (λ text. item_text symbols entries theorems x ++ text) (items_text-append (theorems_with symbols entries theorems x) xs ys)
      ∙ sym (append_assoc (item_text symbols entries theorems x) (items_text symbols entries (theorems_with symbols entries theorems x) xs) (items_text symbols entries (theorems_after symbols entries (theorems_with symbols entries theorems x) xs) ys))

  items_text-next : (done : List Entry) (item : Entry) → items_text symbols entries [] (done ++ item ∷ []) ≡ items_text symbols entries [] done ++ item_text symbols entries (theorems_after symbols entries [] done) item
  items_text-next done item =
      items_text-append [] done (item ∷ [])
      ∙ ap (λ text. items_text symbols entries [] done ++ text) (append-nil (item_text symbols entries (theorems_after symbols entries [] done) item))

  -- how long the chains with one more are
  longer : (done : List Entry) (item : Entry) → length (items_text symbols entries [] (done ++ item ∷ [])) ≡ length (items_text symbols entries [] done) + length (item_text symbols entries (theorems_after symbols entries [] done) item)
  longer done item =
      ap length (items_text-next done item) ∙ length-append (items_text symbols entries [] done) (item_text symbols entries (theorems_after symbols entries [] done) item)

  items_neighbours-next : (theorems : List Proved) (done : List Entry) (item : Entry) → items_neighbours symbols entries theorems (done ++ item ∷ []) ≡ items_neighbours symbols entries theorems done + item_neighbours symbols entries (theorems_after symbols entries theorems done) item
  items_neighbours-next theorems [] item = omega arith
  items_neighbours-next theorems (x ∷ done) item = omega (arith, items_neighbours-next (theorems_with symbols entries theorems x) done item)

  -- what is proved after some items with one more
  abbrev AreProvedAfter : List Entry → List Entry → Type 0
  AreProvedAfter done items = AreProved symbols entries (theorems_after symbols entries [] done) (items_neighbours symbols entries [] done) items

  abbrev AreProvedWith : List Entry → Entry → List Entry → Type 0
  AreProvedWith done item items =
      AreProved symbols entries (theorems_with symbols entries (theorems_after symbols entries [] done) item)
      (items_neighbours symbols entries [] done + item_neighbours symbols entries (theorems_after symbols entries [] done) item) items

  proved_with : (done : List Entry) (item : Entry) (items : List Entry) → AreProvedAfter (done ++ item ∷ []) items → AreProvedWith done item items
  proved_with done item items h =
      subst (λ (theorems : List Proved). AreProved symbols entries theorems (items_neighbours symbols entries [] done + item_neighbours symbols entries (theorems_after symbols entries [] done) item) items) (theorems_after-next [] done item)
      (subst (λ n. AreProved symbols entries (theorems_after symbols entries [] (done ++ item ∷ [])) n items) (items_neighbours-next [] done item) h)

  proved_after : (done : List Entry) (item : Entry) (items : List Entry) → AreProvedWith done item items → AreProvedAfter (done ++ item ∷ []) items
  proved_after done item items h =
      subst (λ n. AreProved symbols entries (theorems_after symbols entries [] (done ++ item ∷ [])) n items) (sym (items_neighbours-next [] done item))
      (subst (λ (theorems : List Proved). AreProved symbols entries theorems (items_neighbours symbols entries [] done + item_neighbours symbols entries (theorems_after symbols entries [] done) item) items) (sym (theorems_after-next [] done item)) h)

-- how the item after some is judged
judged_after : (d : Document) (index : ℕ) (done items : List Entry) (item : Entry) → index ≡ length done → d.entries ≡ done ++ items → judged_by_script d index item ≡ theorem_refusal d.symbols d.entries (theorems_after d.symbols d.entries [] done) (items_neighbours d.symbols d.entries [] done) (length (items_text d.symbols d.entries [] done)) item
judged_after d index done items item is e =
    ap (λ front. theorem_refusal d.symbols d.entries (theorems_after d.symbols d.entries [] front) (items_neighbours d.symbols d.entries [] front) (length (items_text d.symbols d.entries [] front)) item)
    (ap (take index) e ∙ ap (λ n. take n (done ++ items)) is ∙ take-append_seam done items)

one_more_done : (done items : List Entry) (item : Entry) (entries : List Entry) → entries ≡ done ++ item ∷ items → entries ≡ (done ++ item ∷ []) ++ items
one_more_done done items item entries e = e ∙ sym (append_assoc done (item ∷ []) items)

count_done : (done : List Entry) (item : Entry) (index : ℕ) → index ≡ length done → suc index ≡ length (done ++ item ∷ [])
count_done done item index is = omega (arith, is, length-append done (item ∷ []))

-- ---- all theorems

proved_and_short : (d : Document) (index : ℕ) (done items : List Entry) → index ≡ length done → d.entries ≡ done ++ items → HaveSides d.entries items → length (items_text d.symbols d.entries [] done) ≤ limit_number Output → first_refusal (judged_by_script d) index items ≡ None → AreProvedAfter d.symbols d.entries done items × HasShortChains d
proved_and_short d index done [] is e has fits none =
    (tt, subst (λ front. length (items_text d.symbols d.entries [] front) ≤ limit_number Output) (sym (e ∙ append-nil done)) fits)
proved_and_short d index done (item ∷ items) is e has fits none =
    let both = neither (judged_by_script d index item) (first_refusal (judged_by_script d) (suc index) items) none in
    let first = theorem_refusal-none d.symbols d.entries (theorems_after d.symbols d.entries [] done) (items_neighbours d.symbols d.entries [] done) (length (items_text d.symbols d.entries [] done)) item has.0 fits
    (sym (judged_after d index done (item ∷ items) item is e) ∙ both.0) in
    let rest = proved_and_short d (suc index) (done ++ item ∷ []) items (count_done done item index is) (one_more_done done items item d.entries e) has.1
    (omega (arith, first.1, longer d.symbols d.entries done item)) both.1 in
    ((first.0, proved_with d.symbols d.entries done item items rest.0), rest.1)

pub IsProvedDocument-none : (d : Document) → HaveSides d.entries d.entries → script_refusal d ≡ None → IsProvedDocument d × HasShortChains d
IsProvedDocument-none d has none = proved_and_short d 0 [] d.entries refl refl has (omega arith) none

none_refused : (d : Document) (index : ℕ) (done items : List Entry) → index ≡ length done → d.entries ≡ done ++ items → HasShortChains d → AreProvedAfter d.symbols d.entries done items → first_refusal (judged_by_script d) index items ≡ None
none_refused d index done [] is e short proved = refl
none_refused d index done (item ∷ items) is e short proved =
    let e' = one_more_done done items item d.entries e in
    let all : length (chains_text d) ≡ length (items_text d.symbols d.entries [] (done ++ item ∷ [])) + length (items_text d.symbols d.entries (theorems_after d.symbols d.entries [] (done ++ item ∷ [])) items) =
    ap (λ front. length (items_text d.symbols d.entries [] front)) e'
    ∙ ap length (items_text-append d.symbols d.entries [] (done ++ item ∷ []) items)
    ∙ length-append (items_text d.symbols d.entries [] (done ++ item ∷ [])) (items_text d.symbols d.entries (theorems_after d.symbols d.entries [] (done ++ item ∷ [])) items) in
    no_first (judged_by_script d index item) (first_refusal (judged_by_script d) (suc index) items)
    (judged_after d index done (item ∷ items) item is e
    ∙ theorem_refusal-proved d.symbols d.entries (theorems_after d.symbols d.entries [] done) (items_neighbours d.symbols d.entries [] done) (length (items_text d.symbols d.entries [] done)) item proved.0
    (omega (arith, short, all, longer d.symbols d.entries done item)))
    ∙ none_refused d (suc index) (done ++ item ∷ []) items (count_done done item index is) e' short
    (proved_after d.symbols d.entries done item items proved.1)

pub script_refusal-proved : (d : Document) → IsProvedDocument d → HasShortChains d → script_refusal d ≡ None
script_refusal-proved d proved short = none_refused d 0 [] d.entries refl refl short proved

-- ---- one more turn of the loop over the items

-- the items so far are not refused. These are the theorems among them, and their chains have so many neighbours and this text
pub record IsDone (document : Held) (index : ℕ) (theorems : List Proved) (neighbours : ℕ) (text : List ℕ) : Type 0 where
  pub tests : script_refusal (document_of document) ≡ first_refusal (judged_by_script (document_of document)) index (map (entry_of document.sig) (drop index document.items))
  pub proves : theorems ≡ theorems_before document.sig (document_of document).entries index
  pub counted : neighbours ≡ items_neighbours document.sig (document_of document).entries [] (take index (document_of document).entries)
  pub written : text ≡ items_text document.sig (document_of document).entries [] (take index (document_of document).entries)

-- how the next item is judged
judged_next : (document : Held) (index : ℕ) (theorems : List Proved) (neighbours : ℕ) (text : List ℕ) (item : Entry) → IsDone document index theorems neighbours text → judged_by_script (document_of document) index item ≡ theorem_refusal document.sig (document_of document).entries theorems neighbours (length text) item
judged_next document index theorems neighbours text item done =
    let d = document_of document in
    ap (λ (before : List Proved). theorem_refusal d.symbols d.entries before (items_neighbours d.symbols d.entries [] (take index d.entries)) (length (items_text d.symbols d.entries [] (take index d.entries))) item) (sym done.proves)
    ∙ ap₂ (λ n (s : List ℕ). theorem_refusal d.symbols d.entries theorems n (length s) item) (sym done.counted) (sym done.written)

-- the first entries with one more
entries_taken : (symbols : List Symbol) (items : List Item) (index : ℕ) (item : Item) → index < length items → item ≡ get_or items index item → take (suc index) (map (entry_of symbols) items) ≡ take index (map (entry_of symbols) items) ++ entry_of symbols item ∷ []
entries_taken symbols items index item less is =
    take-map (entry_of symbols) (suc index) items
    ∙ ap (map (entry_of symbols)) (take-suc items index item less ∙ ap (λ x. take index items ++ x ∷ []) (sym is))
    ∙ map-append (entry_of symbols) (take index items) (item ∷ [])
    ∙ ap (λ front. front ++ entry_of symbols item ∷ []) (sym (take-map (entry_of symbols) index items))

-- what the check of an item says where nothing refuses it
pub record PassesItem (held : Held) (index : ℕ) (item : Item) (theorems theorems' : List Proved) (neighbours more : ℕ) (text text' : List ℕ) : Type 0 where
  pub refusal : theorem_refusal held.sig (document_of held).entries theorems neighbours (length text) (entry_of held.sig item) ≡ None
  pub proves : theorems' ≡ theorems_with held.sig (document_of held).entries theorems (entry_of held.sig item)
  pub count : more ≡ item_neighbours held.sig (document_of held).entries theorems (entry_of held.sig item)
  pub writes : text' ≡ text ++ item_text held.sig (document_of held).entries theorems (entry_of held.sig item)

dropped : (items : List Item) (index : ℕ) (item : Item) → index < length items → item ≡ get_or items index item → drop index items ≡ item ∷ drop (suc index) items
dropped items index item less is = drop-cons items index item less ∙ ap (λ x. x ∷ drop (suc index) items) (sym is)

IsDone-suc : (document : Held) (index : ℕ) (item : Item) (theorems theorems' : List Proved) (neighbours more : ℕ) (text text' : List ℕ) → index < length document.items → item ≡ get_or document.items index item → IsDone document index theorems neighbours text → PassesItem document index item theorems theorems' neighbours more text text' → IsDone document (suc index) theorems' (neighbours + more) text'
IsDone-suc document index item theorems theorems' neighbours more text text' less there done passes =
    let d = document_of document in
    let e = entry_of document.sig item in
    let taken = entries_taken document.sig document.items index item less there in
    record {
      tests = done.tests
          ∙ ap (λ xs. first_refusal (judged_by_script d) index (map (entry_of document.sig) xs)) (dropped document.items index item less there)
          ∙ no_first (judged_by_script d index e) (first_refusal (judged_by_script d) (suc index) (map (entry_of document.sig) (drop (suc index) document.items)))
          (judged_next document index theorems neighbours text e done ∙ passes.refusal);
      proves = passes.proves
          ∙ ap (λ (before : List Proved). theorems_with d.symbols d.entries before e) done.proves
          ∙ sym (theorems_after-next d.symbols d.entries [] (take index d.entries) e)
          ∙ ap (theorems_after d.symbols d.entries []) (sym taken);
      counted = ap₂ ◌+◌ done.counted (passes.count ∙ ap (λ (before : List Proved). item_neighbours d.symbols d.entries before e) done.proves)
          ∙ sym (items_neighbours-next d.symbols d.entries [] (take index d.entries) e)
          ∙ ap (items_neighbours d.symbols d.entries []) (sym taken);
      written = passes.writes
          ∙ ap₂ (λ (s : List ℕ) (before : List Proved). s ++ item_text d.symbols d.entries before e) done.written done.proves
          ∙ sym (items_text-next d.symbols d.entries (take index d.entries) e)
          ∙ ap (items_text d.symbols d.entries []) (sym taken);
    }

-- the book, whose document it is, has so many neighbours
pub IsDone-next : (held document : Held) (index : ℕ) (item : Item) (theorems theorems' : List Proved) (so_far neighbours more : ℕ) (text text' : List ℕ) → held ≡ document → so_far ≡ neighbours → index < length document.items → item ≡ get_or document.items index item → IsDone document index theorems neighbours text → PassesItem held index item theorems theorems' so_far more text text' → IsDone document (index + 1) theorems' (neighbours + more) text'
IsDone-next held document index item theorems theorems' so_far neighbours more text text' same count less there done passes =
    let next : suc index ≡ index + 1 = omega arith in
    subst (λ n. IsDone document n theorems' (neighbours + more) text') next
    (IsDone-suc document index item theorems theorems' neighbours more text text' less there done
    (subst (λ n. PassesItem document index item theorems theorems' n more text text') count
    (subst (λ (h : Held). PassesItem h index item theorems theorems' so_far more text text') same passes)))

-- a stop at the item is one at the document
pub IsStop-item : (held document : Held) (index : ℕ) (item : Item) (theorems : List Proved) (so_far neighbours : ℕ) (text : List ℕ) (stop : Stop) → held ≡ document → so_far ≡ neighbours → index < length document.items → item ≡ get_or document.items index item → IsDone document index theorems neighbours text → IsStop stop (theorem_refusal held.sig (document_of held).entries theorems so_far (length text) (entry_of held.sig item)) → IsStop stop (script_refusal (document_of document))
IsStop-item held document index item theorems so_far neighbours text stop same count less there done is =
    let d = document_of document in
    let e = entry_of document.sig item in
    IsStop-same stop _ _
    (done.tests ∙ ap (λ xs. first_refusal (judged_by_script d) index (map (entry_of document.sig) xs)) (dropped document.items index item less there))
    (IsStop-first stop (judged_by_script d index e) (first_refusal (judged_by_script d) (suc index) (map (entry_of document.sig) (drop (suc index) document.items)))
    (IsStop-same stop _ _ (judged_next document index theorems neighbours text e done)
    (subst (λ n. IsStop stop (theorem_refusal d.symbols d.entries theorems n (length text) e)) count
    (subst (λ (h : Held). IsStop stop (theorem_refusal h.sig (document_of h).entries theorems so_far (length text) (entry_of h.sig item))) same is))))

-- all items are done
pub script_refusal-done : (document : Held) (index : ℕ) (theorems : List Proved) (neighbours : ℕ) (text : List ℕ) → IsDone document index theorems neighbours text → drop index document.items ≡ [] → script_refusal (document_of document) ≡ None
script_refusal-done document index theorems neighbours text done ended =
    done.tests ∙ ap (λ xs. first_refusal (judged_by_script (document_of document)) index (map (entry_of document.sig) xs)) ended

pub proved_text-done : (document : Held) (index : ℕ) (theorems : List Proved) (neighbours count : ℕ) (text text' : List ℕ) → IsDone document index theorems neighbours text → length document.items ≤ index → count ≡ theorem_count (document_of document).entries → text' ≡ text ++ accepted_line count neighbours → text' ≡ proved_text (document_of document)
unfolding proved_text
proved_text-done document index theorems neighbours count text text' done all counted e =
    let d = document_of document in
    let whole : take index d.entries ≡ d.entries = take_all index d.entries (omega (arith, all, length-map document.items (entry_of document.sig))) in
    e
    ∙ ap₂ (λ (s l : List ℕ). s ++ l)
    (done.written ∙ ap (items_text d.symbols d.entries []) whole)
    (ap₂ accepted_line counted (done.counted ∙ ap (items_neighbours d.symbols d.entries []) whole))
