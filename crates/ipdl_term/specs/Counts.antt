-- Totals over all tapes of a length, and on how many of them a protocol has a history.
use Rattle.std.specs.Prelude.{ℕ, zero, suc, ◌+◌, Bool, true, false, ◌&&◌, List, [], ◌∷◌, ◌++◌, Option, Some, None, map, if◌then◌else◌}
use Rattle.ipdl_base.specs.Bits.{same_bits}
use Rattle.ipdl_term.specs.Terms.{Value, Channel, Protocol}
use Rattle.ipdl_term.specs.Interpretations.{Interpretation}
use Rattle.ipdl_term.specs.Channels.{same_channel, outputs}
use Rattle.ipdl_term.specs.Valuations.{Valuation, nothing}
use Rattle.ipdl_term.specs.Protocols.{protocol_valuation}

-- the sum of a function over all lists of n bits
abbrev pub total : ℕ → (List Bool → ℕ) → ℕ
total zero f = f []
total (suc n) f = total n (λ tape. f (false ∷ tape)) + total n (λ tape. f (true ∷ tape))

abbrev pub one_if : Bool → ℕ
one_if true = 1
one_if false = 0

-- how many lists of n bits pass the test
abbrev pub tape_count : ℕ → (List Bool → Bool) → ℕ
tape_count n test = total n (λ tape. one_if (test tape))

-- a history: which outputs were written, with their values. Of a channel that stands twice the first value counts
abbrev pub History : Type 0
History = List (Channel × Value)

abbrev pub history_valuation : History → Valuation
history_valuation [] c = None
history_valuation (e ∷ h) c = if same_channel e.0 c then Some e.1 else history_valuation h c

abbrev pub same_value : Option Value → Option Value → Bool
same_value None None = true
same_value (Some v) (Some w) = same_bits v w
same_value _ _ = false

-- whether two valuations are the same at these channels
abbrev pub agree_at : List Channel → Valuation → Valuation → Bool
agree_at [] p q = true
agree_at (c ∷ cs) p q = same_value (p c) (q c) && agree_at cs p q

-- whether a valuation of some of these outputs is exactly the history
abbrev pub is_history : List Channel → History → Valuation → Bool
is_history cs h p = agree_at (cs ++ map (λ e. e.0) h) p (history_valuation h)

-- the number of tapes of n bits on which a closed protocol has exactly the history
abbrev pub history_count : Interpretation → Protocol → ℕ → History → ℕ
history_count J p n h = tape_count n (λ tape. is_history (outputs p) h (protocol_valuation J p tape nothing))
