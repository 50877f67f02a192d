-- Texts that are put together piece by piece.
use Rattle.std.proofs.Common.{◌≡◌, ℕ, List, [], ◌∷◌, ◌++◌, length, sym, ap, ap₂, ◌∙◌, append_assoc, append-nil}
use Rattle.std.specs.Prelude.{codes}
use Rattle.std.specs.Fmt.{decimal}
use Rattle.ipdl_term.specs.declared.interface.Interface.{Interface}
use Rattle.ipdl_term.specs.Protocols.{coins}
use Rattle.ipdl_term.specs.Sizes.{saturated, channel_count, protocol_nodes}
use Rattle.ipdl_term.specs.Terms.{Protocol}
use Rattle.ipdl_top.specs.Summaries.{HasPlainCounts, protocol_summary, item_summaries, typed_line, summary_text}
use Rattle.ipdl_printing.specs.Texts.{line, spaced}
use Rattle.ipdl_top.proofs.Counts.{saturated-few}
use Rattle.ipdl_forms.specs.Documents.{Document, Entry}

-- the words of a protocol's line
protocol_words : (name inputs outputs channels nodes random_bits : List ℕ) → (codes "protocol " ++ (name ++ (codes " inputs " ++ (inputs ++ (codes " outputs " ++ (outputs ++ codes " ")))))) ++ (codes "channels " ++ (channels ++ (codes " nodes " ++ (nodes ++ (codes " coins " ++ (random_bits ++ codes "\n")))))) ≡ line (spaced (codes "protocol" ∷ name ∷ codes "inputs" ∷ inputs ∷ codes "outputs" ∷ outputs ∷ codes "channels" ∷ channels ∷ codes "nodes" ∷ nodes ∷ codes "coins" ∷ random_bits ∷ []))
protocol_words name inputs outputs channels nodes random_bits = simp append_assoc

-- the line of a protocol, as the code writes it
pub protocol_summary-pieces : (name : List ℕ) (interface : Interface) (body : Protocol) (shown old s t : List ℕ) (inputs outputs channels nodes random_bits : ℕ) → HasPlainCounts body → shown ≡ name → inputs ≡ length interface.inputs → outputs ≡ length interface.outputs → channels ≡ saturated (channel_count body) → nodes ≡ saturated (protocol_nodes body) → random_bits ≡ saturated (coins body) → s ≡ old ++ (codes "protocol " ++ (shown ++ (codes " inputs " ++ (decimal inputs ++ (codes " outputs " ++ (decimal outputs ++ codes " ")))))) → t ≡ s ++ (codes "channels " ++ (decimal channels ++ (codes " nodes " ++ (decimal nodes ++ (codes " coins " ++ (decimal random_bits ++ codes "\n")))))) → t ≡ old ++ protocol_summary name interface body
protocol_summary-pieces name interface body shown old s t inputs outputs channels nodes random_bits counts e₀ e₁ e₂ e₃ e₄ e₅ e₇ e₈ =
    let few_channels : channels ≡ channel_count body = e₃ ∙ saturated-few (channel_count body) counts.channels in
    let few_nodes : nodes ≡ protocol_nodes body = e₄ ∙ saturated-few (protocol_nodes body) counts.nodes in
    let few_bits : random_bits ≡ coins body = e₅ ∙ saturated-few (coins body) counts.random_bits in
    e₈
    ∙ rw (e₇, e₀, e₁, e₂, few_channels, few_nodes, few_bits)
    (append_assoc old _ _
    ∙ ap (λ text. old ++ text)
    (protocol_words name (decimal (length interface.inputs)) (decimal (length interface.outputs)) (decimal (channel_count body)) (decimal (protocol_nodes body)) (decimal (coins body))))

-- all lines of items, and the last line
pub summary_text-pieces : (d : Document) (rest : List Entry) (count : ℕ) (s₁ s₂ : List ℕ) → rest ≡ [] → item_summaries d.entries ≡ s₁ ++ item_summaries rest → count ≡ length d.entries → s₂ ≡ s₁ ++ typed_line count → s₂ ≡ summary_text d
unfolding summary_text
summary_text-pieces d rest count s₁ s₂ ended written e₀ e₃ =
    e₃
    ∙ ap₂ (λ s l. s ++ l) (sym (written ∙ ap (λ r. s₁ ++ item_summaries r) ended ∙ append-nil s₁)) (ap typed_line e₀)
