-- How the code writes: the tests on a message as it is lent, one by one.
use Rattle.std.specs.Prelude.{ℕ, ◌+◌, ◌*◌, ◌-◌, ◌≤◌, ◌≡◌, Bool, true, false, ◌&&◌, ◌||◌, not, cond, List, [], ◌∷◌, eqb, leb, ltb, length, Option, Some, None}
use Rattle.words.specs.Lists.{one_of}
use Rattle.message.specs.declared.reading.Heading.{Heading}
use Rattle.message.specs.Message.{Message, kinds}
use Rattle.message.specs.Writing.{items_as_lent, message_of}

abbrev pub heading_fits : Heading → Bool
heading_fits h = one_of h.kind kinds && (leb h.service 0xffff && leb h.options 0xffff)

-- an identifier is below the lowest that is left, a value is more than its field holds, or fewer bytes of content are left
abbrev pub misfit : ℕ → ℕ → ℕ → ℕ → Bool
misfit low id n left = ((ltb id low || ltb 0xffff id) || ltb 0xff n) || ltb left n

-- items that are lent with so many bytes of content
unfoldable pub lent_fit : ℕ → List ℕ → List ℕ → ℕ → Bool
lent_fit low [] [] left = eqb left 0
lent_fit low [] (n ∷ lengths) left = false
lent_fit low (id ∷ identifiers) [] left = false
lent_fit low (id ∷ identifiers) (n ∷ lengths) left = not (misfit low id n left) && lent_fit (id + 1) identifiers lengths (left - n)

-- ---- all tests

module _ (h : Heading) (identifiers lengths contents : List ℕ) where
  pub record Tested : Type 0 where
    pub heading : heading_fits h ≡ true
    pub count : length identifiers ≤ 0xff
    pub body : 5 + (4 * length identifiers + length contents) ≤ 0xffff
    pub items : lent_fit 0 identifiers lengths (length contents) ≡ true

  abbrev pub tested : Bool
  tested =
      heading_fits h
      && (leb (length identifiers) 0xff
      && (leb (5 + (4 * length identifiers + length contents)) 0xffff
      && lent_fit 0 identifiers lengths (length contents)))

  abbrev pub lent : Message
  lent = message_of h (items_as_lent identifiers lengths contents)

  -- the message, where it passes
  unfoldable pub drafted : Option Message
  drafted = cond tested (Some lent) None
