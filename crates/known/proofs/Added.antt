-- A record behind the others: its words are read back, no other record, head or field changes but the head of its chain, and the chains go on.
use Rattle.std.proofs.Common.{◌≡◌, ℕ, ◌+◌, ◌*◌, ◌<◌, ◌≢◌, List, [], ◌∷◌, ◌++◌, length, drop, sym, ap, ◌∙◌, subst, ap₂, arith}
use Rattle.refusal.specs.declared.Cell.{Cell}
use Rattle.words.specs.Word.{little, word}
use Rattle.words.proofs.Word.{Apart}
use Rattle.words.proofs.Laws.{length-stored, word-stored, word-stored-apart, drop-after-stored}
use Rattle.cell.specs.Terms.{Words}
use Rattle.known.specs.Inner.Chain.{Chain}
use Rattle.known.proofs.ChainLaws.{chain-longer}
use Rattle.known.specs.Inner.Known.{Known, Added, bucket_of, record_offset, cell_in, link_in, head_in, known_cells, with_high, with_low, with_link, add_in}
use Rattle.known.proofs.Laws.{bucket-lt, cell_same, cells-more, cells_same}

-- ---- the bytes after each of the four stores

module _ (l : List ℕ) (room n : ℕ) (c : Cell) where
  length_high : length (with_high l room n c) ≡ length l
  length_high = length-stored little 8 l (record_offset room n) c.high

  length-low : length (with_low l room n c) ≡ length l
  length-low = length-stored little 8 (with_high l room n c) (record_offset room n + 8) c.low ∙ length_high

  length-link : length (with_link l room n c) ≡ length l
  length-link = length-stored little 4 (with_low l room n c) (record_offset room n + 16) (head_in l (bucket_of c room)) ∙ length-low

  pub length-record : length (add_in l room n c) ≡ length l
  length-record = length-stored little 4 (with_link l room n c) (4 * bucket_of c room) (n + 1) ∙ length-link

  -- a word that no store covers stays
  word_kept : (k q : ℕ) → Apart (record_offset room n) 20 q k → Apart (4 * bucket_of c room) 4 q k → word little k (add_in l room n c) q ≡ word little k l q
  word_kept k q off-record off_head =
      word-stored-apart little little 4 k (with_link l room n c) (4 * bucket_of c room) (n + 1) q off_head
      ∙ word-stored-apart little little 4 k (with_low l room n c) (record_offset room n + 16) (head_in l (bucket_of c room)) q (omega arith)
      ∙ word-stored-apart little little 8 k (with_high l room n c) (record_offset room n + 8) c.low q (omega arith)
      ∙ word-stored-apart little little 8 k l (record_offset room n) c.high q (omega arith)

-- ---- what stands in them

module _ (l : List ℕ) (room n : ℕ) (c : Cell) (known : Known l room n) (less : n < room) (words : Words c) where
  below : bucket_of c room < room
  below = bucket-lt c room known.roomy.least

  high-new : word little 8 (add_in l room n c) (record_offset room n) ≡ c.high
  high-new =
      let fits = below in
      let size = known.roomy.size in
      word-stored-apart little little 4 8 (with_link l room n c) (4 * bucket_of c room) (n + 1) (record_offset room n) (omega arith)
      ∙ word-stored-apart little little 4 8 (with_low l room n c) (record_offset room n + 16) (head_in l (bucket_of c room)) (record_offset room n) (omega arith)
      ∙ word-stored-apart little little 8 8 (with_high l room n c) (record_offset room n + 8) c.low (record_offset room n) (omega arith)
      ∙ word-stored little 8 l (record_offset room n) c.high (omega arith) words.high_word

  low-new : word little 8 (add_in l room n c) (record_offset room n + 8) ≡ c.low
  low-new =
      let fits = below in
      let size = known.roomy.size in
      word-stored-apart little little 4 8 (with_link l room n c) (4 * bucket_of c room) (n + 1) (record_offset room n + 8) (omega arith)
      ∙ word-stored-apart little little 4 8 (with_low l room n c) (record_offset room n + 16) (head_in l (bucket_of c room)) (record_offset room n + 8) (omega arith)
      ∙ word-stored little 8 (with_high l room n c) (record_offset room n + 8) c.low (omega (arith, length_high l room n c)) words.low-word

  cell-new : cell_in (add_in l room n c) room n ≡ c
  unfolding cell_in
  cell-new = λ i. record { high = high-new i; low = low-new i }

  cell-old : (i : ℕ) → i < n → cell_in (add_in l room n c) room i ≡ cell_in l room i
  cell-old i earlier =
      let fits = below in
      cell_same l (add_in l room n c) room i
      (word_kept l room n c 8 (record_offset room i) (omega arith) (omega arith))
      (word_kept l room n c 8 (record_offset room i + 8) (omega arith) (omega arith))

  link-new : link_in (add_in l room n c) room n ≡ head_in l (bucket_of c room)
  link-new =
      let fits = below in
      let size = known.roomy.size in
      let small = known.roomy.small in
      word-stored-apart little little 4 4 (with_link l room n c) (4 * bucket_of c room) (n + 1) (record_offset room n + 16) (omega arith)
      ∙ word-stored little 4 (with_low l room n c) (record_offset room n + 16) (head_in l (bucket_of c room)) (omega (arith, length-low l room n c)) (omega (arith, (known.chain.heads (bucket_of c room) fits).bound))

  link-old : (i : ℕ) → i < n → link_in (add_in l room n c) room i ≡ link_in l room i
  link-old i earlier =
      let fits = below in
      word_kept l room n c 4 (record_offset room i + 16) (omega arith) (omega arith)

  head-new : head_in (add_in l room n c) (bucket_of c room) ≡ n + 1
  head-new =
      let fits = below in
      let size = known.roomy.size in
      let small = known.roomy.small in
      word-stored little 4 (with_link l room n c) (4 * bucket_of c room) (n + 1) (omega (arith, length-link l room n c)) (omega arith)

  head-old : (b : ℕ) → b < room → b ≢ bucket_of c room → head_in (add_in l room n c) b ≡ head_in l b
  head-old b within other = word_kept l room n c 4 (4 * b) (omega arith) (omega arith)

  chain-added : Chain (λ i. bucket_of (cell_in (add_in l room n c) room i) room) (head_in (add_in l room n c)) (link_in (add_in l room n c) room) room (n + 1)
  chain-added =
      chain-longer (λ i. bucket_of (cell_in l room i) room) (head_in l) (link_in l room) (λ i. bucket_of (cell_in (add_in l room n c) room i) room) (head_in (add_in l room n c)) (link_in (add_in l room n c) room) room n (bucket_of c room) known.chain
      (record {
        fits = below;
        bucket-old = λ j earlier. ap (λ (d : Cell). bucket_of d room) (cell-old j earlier);
        bucket-new = ap (λ (d : Cell). bucket_of d room) cell-new;
        next-old = link-old;
        next-new = link-new;
        head-old = head-old;
        head-new = head-new;
      })

  rest-kept : drop (44 * room) (add_in l room n c) ≡ drop (44 * room) l
  rest-kept =
      let fits = below in
      drop-after-stored little 4 (with_link l room n c) (4 * bucket_of c room) (n + 1) (44 * room) (omega arith)
      ∙ drop-after-stored little 4 (with_low l room n c) (record_offset room n + 16) (head_in l (bucket_of c room)) (44 * room) (omega arith)
      ∙ drop-after-stored little 8 (with_high l room n c) (record_offset room n + 8) c.low (44 * room) (omega arith)
      ∙ drop-after-stored little 8 l (record_offset room n) c.high (44 * room) (omega arith)

  more-known : known_cells (add_in l room n c) room (n + 1) ≡ known_cells l room n ++ (c ∷ [])
  more-known =
      let place : 0 + n ≡ n = omega arith in
      cells-more (add_in l room n c) room 0 n
      ∙ ap₂ (λ (cells : List Cell) (d : Cell). cells ++ (d ∷ [])) (cells_same l (add_in l room n c) room 0 n (λ j from earlier. cell-old j (omega arith))) (ap (cell_in (add_in l room n c) room) place ∙ cell-new)

  pub added : Added l (add_in l room n c) room n c
  added =
      let fits = below in
      let size = known.roomy.size in
      record {
        known = record {
          roomy = record { size = omega (arith, length-record l room n c); small = known.roomy.small; least = known.roomy.least };
          count = omega arith;
          chain = chain-added;
        };
        more = more-known;
        cells = cell-old;
        fields = λ i p k from to. word_kept l room n c k (record_offset room i + p) (omega arith) (omega arith);
        rest = rest-kept;
        length-kept = length-record l room n c;
      }

  pub added-by : (l' : List ℕ) → l' ≡ add_in l room n c → Added l l' room n c
  added-by l' e = subst (λ (m : List ℕ). Added l m room n c) (sym e) added
