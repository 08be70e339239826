-- What the full check promises of any bytes, read first. `check` answers `verdict_of` of Fault; `paper` gives an answer's numbers, and
-- `Means` of Means says what each answer says. The results are those over every second of the period, however few the code looks at.
use Rattle.std.specs.Prelude.{ℕ, ◌≤◌, ◌≡◌, Option, Some, None, Ok, Err, List}
use Rattle.std.proofs.Common.{refl, ap, sym, ◌∙◌}
use Rattle.theory.specs.Network as theory
use Rattle.theory.proofs.Promises.{full_every_second}
use Rattle.records.specs.Format.{volume_of}
use Rattle.volume.specs.Opened.{opened}
use Rattle.travel.specs.Network.{network_of, sound_network}
use Rattle.full.specs.declared.Fault.{Fault}
use Rattle.full.specs.declared.Fault.TheVariants.{RoadMissing, RoadLate, PairMissing, PairLate}
use Rattle.block.specs.Refusal.{refusal_number}
use Rattle.volume.specs.Open.{open_of}
use Rattle.full.specs.Fault.{Verdict, verdict_of}
use Rattle.full.specs.Paper.{refusal, paper, paper_tells}
use Rattle.full.specs.Refusals.{opening_numbered}
use Rattle.full.specs.Means.{Opens, Means}
use Rattle.full.proofs.FaultMeans.{answer_holds, holds_once}

-- the contract of the check allows one answer
pub one_answer : (v : List ℕ) (a b : Verdict) → a ≡ verdict_of v → b ≡ verdict_of v → a ≡ b
one_answer v a b e f = e ∙ sym f

-- the check answers with the numbers of a exactly if what a says holds
pub answers_exactly : (v : List ℕ) (a : Verdict)
    → (paper (verdict_of v) ≡ paper a → Means v a) × (Means v a → paper (verdict_of v) ≡ paper a)
answers_exactly v a = (
  (λ e. rw (paper_tells (verdict_of v) a e) at (answer_holds v)),
  (λ h. ap paper (holds_once v a h)),
)

-- the check says full exactly if the volume opens, so that it is sound, and at every second of the period every road and every pair
-- has an edge no slower: there is no other reason to say no
pub full_exactly : (v : List ℕ)
    → (paper (verdict_of v) ≡ paper (Ok None) → Opens v × theory.FullDay (network_of (volume_of v)))
    × (Opens v × theory.FullDay (network_of (volume_of v)) → paper (verdict_of v) ≡ paper (Ok None))
full_exactly v = answers_exactly v (Ok None)

-- full by the check is full at every second of every day
pub full_always : (v : List ℕ) → paper (verdict_of v) ≡ paper (Ok None) → theory.Full (network_of (volume_of v))
full_always v e =
    let f = (full_exactly v).0 e in
    let o = f.0 in
    full_every_second (network_of (volume_of v)) (sound_network (volume_of v) (opened v o.0 o.1).sound) f.1

-- an answer that is no refusal has no refusal's numbers
no_refusal : (a : Option Fault) (number place : ℕ) → paper (Ok a) ≡ refusal number place → ⊥
no_refusal None number place e = (cc)
no_refusal (Some (RoadMissing k)) number place e = (cc)
no_refusal (Some (RoadLate k x)) number place e = (cc)
no_refusal (Some (PairMissing l r)) number place e = (cc)
no_refusal (Some (PairLate l r x)) number place e = (cc)

-- a refusal is one of 1 to 6
pub refused_by_six : (v : List ℕ) (number place : ℕ) → paper (verdict_of v) ≡ refusal number place → (1 ≤ number) × (number ≤ 6)
refused_by_six v number place e = go (verdict_of v) refl e
  where
    go : (a : Verdict) → verdict_of v ≡ a → paper a ≡ refusal number place → (1 ≤ number) × (number ≤ 6)
    go (Err why) q f =
        let n : refusal_number why ≡ number = (cc) in
        let opened : open_of v ≡ Err why = rw q at (answer_holds v) in
        rw n at (rw opened at (opening_numbered v))
    go (Ok a) q f = absurd (no_refusal a number place f)
