-- Two answers that meet a contract agree, and so does what they leave in the memory that was lent to them.
use mathlib.Core.Path.{sym, ◌∙◌}
use denote.Ref.{at_last}
use Rattle.general.specs.OneAnswer.{OneAnswer, OneExit}
use Rattle.words.proofs as here

pub read16-big-one : OneAnswer 1 here.read16_big.Kinds.ps here.read16_big.Kinds.r here.read16_big.Reads.Post
read16-big-one κs a z z' e e' p q = p.0 ∙ sym q.0

pub read32-big-one : OneAnswer 1 here.read32_big.Kinds.ps here.read32_big.Kinds.r here.read32_big.Reads.Post
read32-big-one κs a z z' e e' p q = p.0 ∙ sym q.0

pub read32-little-one : OneAnswer 1 here.read32_little.Kinds.ps here.read32_little.Kinds.r here.read32_little.Reads.Post
read32-little-one κs a z z' e e' p q = p.0 ∙ sym q.0

pub read64-big-one : OneAnswer 1 here.read64_big.Kinds.ps here.read64_big.Kinds.r here.read64_big.Reads.Post
read64-big-one κs a z z' e e' p q = p ∙ sym q

pub read64-little-one : OneAnswer 1 here.read64_little.Kinds.ps here.read64_little.Kinds.r here.read64_little.Reads.Post
read64-little-one κs a z z' e e' p q = p ∙ sym q

pub write16-big-exit : OneExit 1 here.write16_big.Kinds.ps here.write16_big.Kinds.r here.write16_big.Reads.Post
write16-big-exit κs a z z' last last' p q = λ i. (at_last a.0 ((p ∙ sym q) i), a.1)

pub write32-big-exit : OneExit 1 here.write32_big.Kinds.ps here.write32_big.Kinds.r here.write32_big.Reads.Post
write32-big-exit κs a z z' last last' p q = λ i. (at_last a.0 ((p ∙ sym q) i), a.1)

pub write32-little-exit : OneExit 1 here.write32_little.Kinds.ps here.write32_little.Kinds.r here.write32_little.Reads.Post
write32-little-exit κs a z z' last last' p q = λ i. (at_last a.0 ((p ∙ sym q) i), a.1)

pub write64-big-exit : OneExit 1 here.write64_big.Kinds.ps here.write64_big.Kinds.r here.write64_big.Reads.Post
write64-big-exit κs a z z' last last' p q = λ i. (at_last a.0 ((p ∙ sym q) i), a.1)

pub write64-little-exit : OneExit 1 here.write64_little.Kinds.ps here.write64_little.Kinds.r here.write64_little.Reads.Post
write64-little-exit κs a z z' last last' p q = λ i. (at_last a.0 ((p ∙ sym q) i), a.1)

-- ---- runs of bytes

pub zero-exit : OneExit 1 here.bytes.zero.Kinds.ps here.bytes.zero.Kinds.r here.bytes.zero.Reads.Post
zero-exit κs a z z' last last' p q = λ i. (at_last a.0 ((p ∙ sym q) i), (a.1.0, (a.1.1.0, tt)))

pub copy-exit : OneExit 2 here.bytes.copy.Kinds.ps here.bytes.copy.Kinds.r here.bytes.copy.Reads.Post
copy-exit κs a z z' last last' p q = λ i. (at_last a.0 ((p ∙ sym q) i), (a.1.0, (a.1.1.0, (a.1.1.1.0, (a.1.1.1.1.0, tt)))))

pub copy-front-exit : OneExit 2 here.bytes.copy_front.Kinds.ps here.bytes.copy_front.Kinds.r here.bytes.copy_front.Reads.Post
copy-front-exit κs a z z' last last' p q = λ i. (at_last a.0 ((p ∙ sym q) i), (a.1.0, (a.1.1.0, tt)))
