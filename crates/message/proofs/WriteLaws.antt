-- What each branch of writing a message returns.
use Rattle.std.specs.Prelude.{ℕ, ◌+◌, ◌*◌, ◌-◌, ◌^◌, ◌≤◌, ◌<◌, ◌≡◌, Bool, false, ◌&&◌, not, List, ◌++◌, eqb, length, take, drop, Option, Some, None, Ok}
use Rattle.std.proofs.Math.Path.{sym}
use Rattle.std.proofs.Common.{◌∙◌, length-take-le}
use Rattle.std.proofs.Math.Bool.{true}
use native.Mathlib.Omega.{arith}
use borrow.Author.Tests.{leb-true, le-leb, eq-eqb, eqb-true, not-true, not-false}
use Rattle.std.proofs.Math.Dec.{leb}
use Rattle.words.specs.Lists.{one_of}
use Rattle.words.specs.BoolLaws.{and_left, and_right, and_both, by-test, clash, impossible}
use Rattle.message.specs.declared.reading.Heading.{Heading}
use Rattle.message.specs.Message.{Message, kinds, body_bytes}
use Rattle.message.specs.Writing.{message_bytes, rising, items_hold, writable, wrote, not_written, write_answer, items_as_lent, sum, together, items_lent, write_lent}
use Rattle.message.specs.Lending.{heading_fits, lent_fit, Tested, tested, lent, drafted}
use Rattle.message.proofs.LendingLaws.{fit-both, fit_is, count-lent, length-lent}
use Rattle.message.proofs.ReadLaws.{length_mac}
use Rattle.message.proofs.LayingLaws.{length-body}
use Rattle.message.proofs.WritableLaws.{items-hold, hold-items, writable_rises, writable-fits, fits-writable, written-whole, written-short, written_not}

module _ (h : Heading) (identifiers lengths contents : List ℕ) where
  module _ (counts : length identifiers ≡ length lengths) (sums : sum lengths ≡ length contents) where
    body-lent : length (body_bytes (lent h identifiers lengths contents)) ≡ 5 + (4 * length identifiers + length contents)
    body-lent = length-body (lent h identifiers lengths contents) ∙ rw (length-lent identifiers lengths contents counts sums)

    writable-tested : writable (lent h identifiers lengths contents) ≡ true → Tested h identifiers lengths contents
    writable-tested t =
        let fits = writable-fits (lent h identifiers lengths contents) t in
        let service = fits.service in
        let options = fits.options in
        let number = fits.count in
        let size = fits.body in
        let count = count-lent identifiers lengths contents counts in
        let body = body-lent in
        record {
          heading = and_both fits.named (and_both (le-leb h.service 0xffff (omega arith)) (le-leb h.options 0xffff (omega arith)));
          count = omega arith;
          body = omega arith;
          items = rw (fit_is 0 identifiers lengths contents counts sums) (and_both (writable_rises (lent h identifiers lengths contents) t) (hold-items (items_as_lent identifiers lengths contents) fits.items));
        }

    tested-writable : h.caller < 2 ^ 64 → h.number < 2 ^ 64 → Tested h identifiers lengths contents → writable (lent h identifiers lengths contents) ≡ true
    tested-writable caller number t =
        let m = lent h identifiers lengths contents in
        let wide = and_right (one_of h.kind kinds) _ t.heading in
        let service = leb-true h.service 0xffff (and_left (leb h.service 0xffff) _ wide) in
        let options = leb-true h.options 0xffff (and_right (leb h.service 0xffff) _ wide) in
        let both : rising m && items_hold m.items ≡ true = rw (← fit_is 0 identifiers lengths contents counts sums) t.items in
        let few = t.count in
        let size = t.body in
        let count = count-lent identifiers lengths contents counts in
        let body = body-lent in
        fits-writable m (and_left (rising m) _ both)
        (record {
          named = and_left (one_of h.kind kinds) _ t.heading;
          caller = caller;
          number = number;
          service = omega arith;
          options = omega arith;
          count = omega arith;
          items = items-hold m.items (and_right (rising m) _ both);
          body = omega arith;
          four = λ sealed. length_mac m;
        })

  -- ---- the tests of the code

  all_tested : Tested h identifiers lengths contents → tested h identifiers lengths contents ≡ true
  all_tested t =
      and_both t.heading
      (and_both (le-leb (length identifiers) 0xff t.count) (and_both (le-leb (5 + (4 * length identifiers + length contents)) 0xffff t.body) t.items))

  tested_all : tested h identifiers lengths contents ≡ true → Tested h identifiers lengths contents
  tested_all t =
      let t₁ = and_right (heading_fits h) _ t in
      let t₂ = and_right (leb (length identifiers) 0xff) _ t₁ in
      record {
        heading = and_left (heading_fits h) _ t;
        count = leb-true (length identifiers) 0xff (and_left (leb (length identifiers) 0xff) _ t₁);
        body = leb-true (5 + (4 * length identifiers + length contents)) 0xffff (and_left (leb (5 + (4 * length identifiers + length contents)) 0xffff) _ t₂);
        items = and_right (leb (5 + (4 * length identifiers + length contents)) 0xffff) _ t₂;
      }

  undrafted : (Tested h identifiers lengths contents → ⊥) → None ≡ drafted h identifiers lengths contents
  unfolding drafted
  undrafted d = by-test (tested h identifiers lengths contents) (λ t. absurd (d (tested_all t))) (λ f. rw f)

  pub draft-made : Tested h identifiers lengths contents → Some (lent h identifiers lengths contents) ≡ drafted h identifiers lengths contents
  unfolding drafted
  draft-made t = rw (all_tested t)

  module _ {fits : Bool} (heading : fits ≡ heading_fits h) where
    pub refused_early : not ((fits && leb (length identifiers) 0xff) && leb (length contents) 0xffff) ≡ true → None ≡ drafted h identifiers lengths contents
    refused_early n =
        undrafted
        (λ t. let body = t.body in
        clash
        (and_both (and_both (heading ∙ t.heading) (le-leb (length identifiers) 0xff t.count)) (le-leb (length contents) 0xffff (omega arith)))
        (not-true ((fits && leb (length identifiers) 0xff) && leb (length contents) 0xffff) n))

    -- what the first tests leave
    pub record Passed : Type 0 where
      pub fit : heading_fits h ≡ true
      pub count : length identifiers ≤ 0xff
      pub bytes : length contents ≤ 0xffff

    pub passed : not ((fits && leb (length identifiers) 0xff) && leb (length contents) 0xffff) ≡ false → Passed
    passed n =
        let all = not-false ((fits && leb (length identifiers) 0xff) && leb (length contents) 0xffff) n in
        let two = and_left (fits && leb (length identifiers) 0xff) _ all in
        record {
          fit = sym heading ∙ and_left fits _ two;
          count = leb-true (length identifiers) 0xff (and_right fits _ two);
          bytes = leb-true (length contents) 0xffff (and_right (fits && leb (length identifiers) 0xff) _ all);
        }

    module _ (pass : Passed) {fit : Bool} (items : fit ≡ lent_fit 0 identifiers lengths (length contents)) where
      abbrev size : ℕ
      size = 5 + 4 * length identifiers + length contents

      pub refused-late : not (leb size 0xffff && fit) ≡ true → None ≡ drafted h identifiers lengths contents
      refused-late n =
          undrafted (λ t. let body = t.body in clash (and_both (le-leb size 0xffff (omega arith)) (items ∙ t.items)) (not-true (leb size 0xffff && fit) n))

      pub all-passed : not (leb size 0xffff && fit) ≡ false → Tested h identifiers lengths contents
      all-passed n =
          let both = not-false (leb size 0xffff && fit) n in
          let small = leb-true size 0xffff (and_left (leb size 0xffff) _ both) in
          record { heading = pass.fit; count = pass.count; body = omega arith; items = sym items ∙ and_right (leb size 0xffff) _ both }

  -- ---- what is written

  refused_unless : (out : List ℕ) → (Tested h identifiers lengths contents → ⊥) → wrote not_written out ≡ write_lent h (items_lent identifiers lengths contents) out
  unfolding items_lent together
  refused_unless out untested =
      by-test (together identifiers lengths contents)
      (λ t. let counts = eqb-true (length identifiers) (length lengths) (and_left (eqb (length identifiers) (length lengths)) _ t) in
      let sums = eqb-true (sum lengths) (length contents) (and_right (eqb (length identifiers) (length lengths)) _ t) in
      by-test (writable (lent h identifiers lengths contents))
      (λ w. absurd (untested (writable-tested counts sums w)))
      (λ f. rw t (sym (written_not (lent h identifiers lengths contents) out f))))
      (λ f. rw f)

  together_of : Tested h identifiers lengths contents → together identifiers lengths contents ≡ true
  unfolding together
  together_of t =
      let f = fit-both 0 identifiers lengths (length contents) t.items in
      and_both (eq-eqb (length identifiers) (length lengths) f.counts) (eq-eqb (sum lengths) (length contents) f.sums)

  module _ (out : List ℕ) {x : Option Message} (draft : x ≡ drafted h identifiers lengths contents) where
    pub not_drafted : x ≡ None → wrote not_written out ≡ write_lent h (items_lent identifiers lengths contents) out
    not_drafted e =
        refused_unless out (λ t. let made : ◌≡◌ {A = Option Message} (Some (lent h identifiers lengths contents)) None = draft-made t ∙ sym draft ∙ e in impossible (cc))

    module _ {m : Message} (made : x ≡ Some m) (caller : h.caller < 2 ^ 64) (number : h.number < 2 ^ 64) where
      tested_here : Tested h identifiers lengths contents × (m ≡ lent h identifiers lengths contents)
      unfolding drafted
      tested_here =
          by-test (tested h identifiers lengths contents)
          (λ t. let same : Some (lent h identifiers lengths contents) ≡ Some m = rw t at (sym draft ∙ made) in (tested_all t, cc))
          (λ f. let none : ◌≡◌ {A = Option Message} None (Some m) = rw f at (sym draft ∙ made) in impossible (cc))

      writable_here : writable m ≡ true
      writable_here =
          let t = tested_here.0 in
          let f = fit-both 0 identifiers lengths (length contents) t.items in
          rw tested_here.1 (tested-writable f.counts f.sums caller number t)

      answered : write_answer m out ≡ write_lent h (items_lent identifiers lengths contents) out
      unfolding items_lent
      answered = rw (tested_here.1, together_of tested_here.0)

      pub refused-short : {end : ℕ} → end ≡ length (message_bytes m) → length out < end → wrote not_written out ≡ write_lent h (items_lent identifiers lengths contents) out
      refused-short e l = sym (written-short m out writable_here (omega arith)) ∙ answered

      pub written : {end : ℕ} → end ≡ length (message_bytes m) → end ≤ length out → {part : List ℕ} → part ≡ message_bytes m
          → wrote (Ok end) (take 0 out ++ (part ++ drop (end - 0) (drop 0 out))) ≡ write_lent h (items_lent identifiers lengths contents) out
      written {end} e l {part} p =
          let z : end - 0 ≡ length (message_bytes m) = omega arith in
          rw (z, p, e) (sym (written-whole m out writable_here (omega arith))) ∙ answered

-- the part of the output that the message fills
pub part-size : (out : List ℕ) (end : ℕ) → end ≤ length out → length (take (end - 0) (drop 0 out)) ≡ end
part-size out end room = let z : end - 0 ≡ end = omega arith in rw z (length-take-le end out room)
