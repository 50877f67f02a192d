-- What the check of a theorem says of what it claims.
use Rattle.std.proofs.Common.{◌≡◌, ℕ, ◌+◌, ◌<◌, ◌≤◌, List, [], ◌∷◌, ◌++◌, map, length, Option, Some, None, sym, ap, ap₂, subst, ◌∙◌, length-append, arith}
use Rattle.std.proofs.lemmas.Bool.{lt-ltb}
use Rattle.std.proofs.lemmas.List.{map-append}
use Rattle.std.proofs.lemmas.List.Elements.{All-append, All-from_recursion}
use Rattle.std.specs.Prelude.{option_map, All, if◌then◌else◌}
use Rattle.ipdl_base.specs.Limits.{limit_number}
use Rattle.ipdl_base.specs.declared.limit.Limit.TheVariants.{Output}
use Rattle.ipdl_chain.specs.Chains.{Chain as MadeChain, neighbour_count}
use Rattle.ipdl_chain.specs.ChainTexts.{assumptions_in, chain_text}
use Rattle.ipdl_chain.specs.Views.{chain_of}
use Rattle.ipdl_chain.specs.declared.chain.Chain.{Chain}
use Rattle.ipdl_forms.specs.Documents.{document_of}
use Rattle.ipdl_forms.specs.Lookups.{protocol_named}
use Rattle.ipdl_forms.specs.declared.document.ProtocolItem.{ProtocolItem}
use Rattle.ipdl_forms.specs.declared.document.TheoremItem.{TheoremItem}
use Rattle.ipdl_script.specs.Answers.{IsChainOfScripts}
use Rattle.ipdl_script.specs.Known.{Proved}
use Rattle.ipdl_script.specs.Ready.{setting_at, theorem_between, neighbours_in, IsReady}
use Rattle.ipdl_script.specs.Scripts.{first_wrong}
use Rattle.ipdl_script.specs.Views.{proved_of}
use Rattle.ipdl_script.specs.declared.theorem.Book.{Book}
use Rattle.ipdl_term.specs.Steps.{step_of}
use Rattle.ipdl_term.specs.Views.{protocol_of}
use Rattle.ipdl_top.proofs.Firsts.{no_first}
use Rattle.ipdl_forms.proofs.Networks.{network_named-found}
use Rattle.ipdl_top.proofs.Stops.{IsStop-first, IsStop-same}
use Rattle.ipdl_top.proofs.Theorems.{none_mapped, length_refusal-short}
use Rattle.ipdl_top.specs.Books.{held_claim}
use Rattle.ipdl_top.specs.Chains.{Claim, claim_between, proved_by, claim_neighbours, claim_text}
use Rattle.ipdl_top.specs.Lines.{at_theorem, limit_line}
use Rattle.ipdl_top.specs.Refusals.{long_chains}
use Rattle.ipdl_top.specs.Scripts.{wrong_refusal, length_refusal, claim_refusal}
use Rattle.ipdl_top.specs.Statuses.{over, Refusal, refusal_of}
use Rattle.ipdl_top.specs.Told.{IsStop}
use Rattle.ipdl_top.specs.declared.refusal.Stop.{Stop}
use Rattle.ipdl_uses.specs.Views.{IsKept}

-- ---- the claim of a theorem whose protocols are found

abbrev pub found_claim : Book → TheoremItem → (left right : ProtocolItem) → Claim
found_claim book theorem left right = record {
  name = theorem.name;
  left = theorem.left;
  right = theorem.right;
  setting = setting_at book.document.now book.chains left.interface;
  theorem = theorem_between theorem (protocol_of left.body) (protocol_of right.body);
}

abbrev pub AreFound : Book → TheoremItem → (left right : ProtocolItem) → Type 0
AreFound book theorem left right =
    (protocol_named book.document.now.items theorem.left ≡ Some left) × (protocol_named book.document.now.items theorem.right ≡ Some right)

held_claim-found : (book : Book) (theorem : TheoremItem) (left right : ProtocolItem) → AreFound book theorem left right → held_claim book theorem ≡ Some (found_claim book theorem left right)
held_claim-found book theorem left right found =
    ap₂ (λ from to. claim_between book.document.now.sig (document_of book.document.now).entries (map proved_of book.chains) theorem.name theorem.left theorem.right (map step_of theorem.left_steps) (map step_of theorem.right_steps) from to)
    (network_named-found book.document.now.sig book.document.now.items theorem.left (Some left) (sym found.0))
    (network_named-found book.document.now.sig book.document.now.items theorem.right (Some right) (sym found.1))

-- the refusal of the claim, where there are so many neighbours and bytes before it
abbrev pub held_refusal : Book → TheoremItem → (neighbours written : ℕ) → Option Refusal
held_refusal book theorem neighbours written =
    claim_refusal book.document.now.sig (assumptions_in (document_of book.document.now).entries) neighbours written (held_claim book theorem)

-- the text of its chain
abbrev pub held_text : Book → TheoremItem → List ℕ
held_text book theorem = claim_text book.document.now.sig (assumptions_in (document_of book.document.now).entries) (held_claim book theorem)

-- ---- something is wrong

pub wrong_stop : (book : Book) (theorem : TheoremItem) (left right : ProtocolItem) (neighbours written : ℕ) (stop : Stop) → AreFound book theorem left right → IsStop stop (option_map (wrong_refusal book.document.now.sig theorem.name (map step_of theorem.left_steps) (map step_of theorem.right_steps)) (first_wrong (setting_at book.document.now book.chains left.interface) neighbours (theorem_between theorem (protocol_of left.body) (protocol_of right.body)))) → IsStop stop (held_refusal book theorem neighbours written)
wrong_stop book theorem left right neighbours written stop found is =
    let assumptions = assumptions_in (document_of book.document.now).entries in
    let claim = found_claim book theorem left right in
    IsStop-same stop (held_refusal book theorem neighbours written) (claim_refusal book.document.now.sig assumptions neighbours written (Some claim))
    (ap (claim_refusal book.document.now.sig assumptions neighbours written) (held_claim-found book theorem left right found))
    (IsStop-first stop _ (length_refusal theorem.name (written + length (claim_text book.document.now.sig assumptions (Some claim)))) is)

-- ---- nothing is wrong

-- the chain is that of the claim
pub record IsChecked (book : Book) (theorem : TheoremItem) (neighbours : ℕ) (chain : Chain) : Type 0 where
  pub text : chain_text book.document.now.sig (assumptions_in (document_of book.document.now).entries) chain.name chain.left chain.right (chain_of chain) ≡ held_text book theorem
  pub count : neighbour_count (chain_of chain).links ≡ claim_neighbours (held_claim book theorem)
  pub refusal : (written : ℕ) → held_refusal book theorem neighbours written ≡ length_refusal theorem.name (written + length (held_text book theorem))
  pub proves : proved_of chain ∷ [] ≡ proved_by (held_claim book theorem)

checked_claim : (book : Book) (theorem : TheoremItem) (left right : ProtocolItem) (neighbours : ℕ) (chain : Chain) → IsChainOfScripts chain (setting_at book.document.now book.chains left.interface) neighbours (theorem_between theorem (protocol_of left.body) (protocol_of right.body)) → (found : Option Claim) → found ≡ Some (found_claim book theorem left right) → (written : ℕ) → claim_refusal book.document.now.sig (assumptions_in (document_of book.document.now).entries) neighbours written found ≡ length_refusal theorem.name (written + length (claim_text book.document.now.sig (assumptions_in (document_of book.document.now).entries) found))
checked_claim book theorem left right neighbours chain is None e written = cc
checked_claim book theorem left right neighbours chain is (Some claim) e written =
    subst (λ (found : Option Claim). claim_refusal book.document.now.sig assumptions neighbours written found ≡ length_refusal theorem.name (written + length (claim_text book.document.now.sig assumptions found))) (sym e)
    (no_first _ (length_refusal theorem.name (written + length (claim_text book.document.now.sig assumptions (Some (found_claim book theorem left right)))))
    (none_mapped (wrong_refusal book.document.now.sig theorem.name (map step_of theorem.left_steps) (map step_of theorem.right_steps)) _ is.right))
  where
    assumptions : List (List ℕ)
    assumptions = assumptions_in (document_of book.document.now).entries

-- a chain by its parts
proved_of-parts : (chain : Chain) (name left : List ℕ) (made : MadeChain) → chain.name ≡ name → chain.left ≡ left → chain_of chain ≡ made → proved_of chain ≡ record { name = name; left = left; chain = made }
proved_of-parts chain name left made e f g =
    ap (λ n. let p : Proved = record { name = n; left = chain.left; chain = chain_of chain } in p) e
    ∙ ap (λ n. let p : Proved = record { name = name; left = n; chain = chain_of chain } in p) f
    ∙ ap (λ (c : MadeChain). let p : Proved = record { name = name; left = left; chain = c } in p) g

checked : (book : Book) (theorem : TheoremItem) (left right : ProtocolItem) (neighbours : ℕ) (chain : Chain) → AreFound book theorem left right → IsChainOfScripts chain (setting_at book.document.now book.chains left.interface) neighbours (theorem_between theorem (protocol_of left.body) (protocol_of right.body)) → chain.name ≡ theorem.name → chain.left ≡ theorem.left → chain.right ≡ theorem.right → IsChecked book theorem neighbours chain
checked book theorem left right neighbours chain found is name from to =
    let there = held_claim-found book theorem left right found in
    let claim = found_claim book theorem left right in
    let assumptions = assumptions_in (document_of book.document.now).entries in
    record {
      text = ap (λ n. chain_text book.document.now.sig assumptions n chain.left chain.right (chain_of chain)) name
          ∙ ap (λ n. chain_text book.document.now.sig assumptions theorem.name n chain.right (chain_of chain)) from
          ∙ ap (λ n. chain_text book.document.now.sig assumptions theorem.name theorem.left n (chain_of chain)) to
          ∙ ap (chain_text book.document.now.sig assumptions theorem.name theorem.left theorem.right) is.made
          ∙ sym (ap (claim_text book.document.now.sig assumptions) there);
      count = ap (λ c. neighbour_count c.links) is.made ∙ sym (ap claim_neighbours there);
      refusal = checked_claim book theorem left right neighbours chain is (held_claim book theorem) there;
      proves = ap (λ p. p ∷ []) (proved_of-parts chain theorem.name theorem.left _ name from is.made) ∙ sym (ap proved_by there);
    }

length_refusal-long : (theorem : List ℕ) (written : ℕ) → limit_number Output < written → length_refusal theorem written ≡ Some (long_chains theorem)
length_refusal-long theorem written long = ap (λ b. if b then Some (long_chains theorem) else None) (lt-ltb (limit_number Output) written long)

-- the text of a chain of the document
abbrev pub text_of : Book → Chain → List ℕ
text_of book chain =
    chain_text book.document.now.sig (assumptions_in (document_of book.document.now).entries) chain.name chain.left chain.right (chain_of chain)

-- how long the text is with that of the chain
with_chain : (book : Book) (theorem : TheoremItem) (neighbours : ℕ) (chain : Chain) (old new : List ℕ) → IsChecked book theorem neighbours chain → new ≡ old ++ text_of book chain → length new ≡ length old + length (held_text book theorem)
with_chain book theorem neighbours chain old new is e =
    ap length e ∙ length-append old _ ∙ ap (λ (text : List ℕ). length old + length text) is.text

-- it is too long
pub long_stop : (book : Book) (theorem : TheoremItem) (neighbours : ℕ) (chain : Chain) (old new : List ℕ) (number : ℕ) (stop : Stop) → IsChecked book theorem neighbours chain → new ≡ old ++ text_of book chain → number ≡ limit_number Output → number < length new → IsStop stop (Some (refusal_of over (limit_line Output number (at_theorem theorem.name)))) → IsStop stop (held_refusal book theorem neighbours (length old))
long_stop book theorem neighbours chain old new number stop is e limit long stops =
    let all = with_chain book theorem neighbours chain old new is e in
    IsStop-same stop _ _
    (is.refusal (length old)
    ∙ length_refusal-long theorem.name _ (omega (arith, all, limit, long))
    ∙ ap (λ n. Some (refusal_of over (limit_line Output n (at_theorem theorem.name)))) (sym limit))
    stops

-- it is not
pub short_refusal : (book : Book) (theorem : TheoremItem) (neighbours : ℕ) (chain : Chain) (old new : List ℕ) (number : ℕ) → IsChecked book theorem neighbours chain → new ≡ old ++ text_of book chain → number ≡ limit_number Output → length new ≤ number → held_refusal book theorem neighbours (length old) ≡ None
short_refusal book theorem neighbours chain old new number is e limit short =
    let all = with_chain book theorem neighbours chain old new is e in
    is.refusal (length old) ∙ length_refusal-short theorem.name _ (omega (arith, all, limit, short))

-- ---- one more chain

pub neighbours_in-next : (chains : List Chain) (chain : Chain) → neighbours_in (chains ++ chain ∷ []) ≡ neighbours_in chains + neighbour_count (chain_of chain).links
neighbours_in-next [] chain = omega arith
neighbours_in-next (first ∷ chains) chain = omega (arith, neighbours_in-next chains chain)

-- the theorems of a book with one more
pub theorems_in-next : (book : Book) (theorem : TheoremItem) (neighbours : ℕ) (chain : Chain) (chains : List Chain) → IsChecked book theorem neighbours chain → chains ≡ book.chains ++ chain ∷ [] → map proved_of chains ≡ map proved_of book.chains ++ proved_by (held_claim book theorem)
theorems_in-next book theorem neighbours chain chains is e =
    ap (map proved_of) e ∙ map-append proved_of book.chains (chain ∷ []) ∙ ap (λ more. map proved_of book.chains ++ more) is.proves

pub kept-next : (symbols : ℕ) (before : List Chain) (chain : Chain) (chains : List Chain) → All (IsKept symbols) before → IsKept symbols chain → chains ≡ before ++ chain ∷ [] → All (IsKept symbols) chains
kept-next symbols before chain chains kept one e =
    subst (All (IsKept symbols)) (sym e) (All-append (IsKept symbols) before (chain ∷ []) kept (All-from_recursion (IsKept symbols) (chain ∷ []) (one, tt)))

-- the chain that the check of a theorem gives
pub checked_ready : (book : Book) (theorem : TheoremItem) (chain : Chain) (ready : IsReady book theorem) → ((left right : ProtocolItem) → protocol_named book.document.now.items theorem.left ≡ Some left → protocol_named book.document.now.items theorem.right ≡ Some right → IsChainOfScripts chain (setting_at book.document.now book.chains left.interface) (neighbours_in book.chains) (theorem_between theorem (protocol_of left.body) (protocol_of right.body))) → chain.name ≡ theorem.name → chain.left ≡ theorem.left → chain.right ≡ theorem.right → IsChecked book theorem (neighbours_in book.chains) chain
checked_ready book theorem chain ready scripts =
    checked book theorem ready.left ready.right (neighbours_in book.chains) chain
    (ready.has_left, ready.has_right) (scripts ready.left ready.right ready.has_left ready.has_right)
