-- Each public function's contract, as the check reads it, leaves one possible result (01, 'How strict the contracts are'). Whether
-- a write fails, and by which error, no contract can say: of those that write, one result is left where neither of two fails, and
-- one content of a writer that tells what it holds.
use Rattle.std.proofs.Common.{◌≡◌, sym, ◌∙◌, ap, ℕ, List, Option, Some, None, Result, Ok, Err, IsOk, IfOk, OnOk, IfSome, take}
use Rattle.std.proofs.lemmas.Bool.{false≢true}
use Rattle.std.specs.Io.KnownBytes.{Appends}
use denote.RattleType.{RattleType}
use denote.Param.Laws.{Laws}
use mir.Syntax.{Dict}
use Rattle.std.specs.declared.io.traits.Write.{Ghosts}
use Rattle.std.specs.declared.io.traits.Read.{Ghosts as ReadGhosts}
use Rattle.report.specs.Streams.{most_read}
use Rattle.bits.proofs.Unique.{OneResult}
use Rattle.report.proofs.digit.Reads as digit-reads
use Rattle.report.proofs.hex.Reads as hex-reads
use Rattle.report.proofs.Answered.text.Reads as text-reads
use Rattle.report.proofs.refusal.Reads as refusal-reads
use Rattle.report.proofs.openings.Reads as openings-reads
use Rattle.report.proofs.clocks.Reads as clocks-reads
use Rattle.report.proofs.streams.read_list.Reads as read_list-reads
use Rattle.report.proofs.streams.unread.Reads as unread-reads
use Rattle.report.proofs.streams.printed.Reads as printed-reads

pub digit : OneResult digit-reads.Post
digit κs a r r' s s' p q = p ∙ sym q

pub text : OneResult text-reads.Post
text κs a r r' s s' p q = p ∙ sym q

-- two results of the same arguments, what the writer told before and after each of the two
abbrev pub OneWriting : {V E : Type 0} → Result V E → Result V E → Option (List ℕ) → Option (List ℕ) → Option (List ℕ) → Type 0
OneWriting r r' old new new' = IsOk r → IsOk r' → (r ≡ r') × IfSome old (λ _. new ≡ new')

one_content : (old new new' : Option (List ℕ)) (bs : List ℕ) → Appends old new bs → Appends old new' bs → IfSome old (λ _. new ≡ new')
one_content None new new' bs p q = tt
one_content (Some x) None new' bs p q = absurd p
one_content (Some x) (Some y) None bs p q = absurd q
one_content (Some x) (Some y) (Some y') bs p q = ap (λ (t : List ℕ). Some t) (p ∙ sym q)

one_writing : {E : Type 0} (r r' : Result Unit E) (old new new' : Option (List ℕ)) (bs : List ℕ)
    → IfOk r (λ x. x ≡ tt) → IfOk r' (λ x. x ≡ tt) → OnOk r (Appends old new bs) → OnOk r' (Appends old new' bs)
    → OneWriting r r' old new new'
one_writing (Ok x) (Ok x') old new new' bs e e' w w' i i' =
    (ap (λ (t : Unit). Ok t) (e ∙ sym e'), one_content old new new' bs w w')
one_writing (Ok x) (Err _) old new new' bs e e' w w' i i' = absurd (false≢true i')
one_writing (Err _) r' old new new' bs e e' w w' i i' = absurd (false≢true i)

-- what meets a contract that tells what a writer holds, at the same arguments
abbrev pub OneText : {K : Type 0} {A S : RattleType → Type 0} {E : Type 0}
    → (Post : (W : RattleType) → Laws W → Ghosts W.Denot → Dict → K → A W → Result Unit E → S W → Type 0)
    → (before : (W : RattleType) → A W → W.Denot) → (after : (W : RattleType) → S W → W.Denot) → Type 2
OneText {A = A} {S = S} {E = E} Post before after =
    (W : RattleType) (laws : Laws W) (write : Ghosts W.Denot) (dict : Dict) (κs : _) (a : A W) (r r' : Result Unit E) (s s' : S W)
    → Post W laws write dict κs a r s → Post W laws write dict κs a r' s'
    → OneWriting r r' (write.contents (before W a)) (write.contents (after W s)) (write.contents (after W s'))

pub hex : OneText hex-reads.Post (λ W a. a.0.now) (λ W s. s.0.now)
hex W laws write dict κs a r r' s s' p q = one_writing r r' _ _ _ _ p.0 q.0 p.1 q.1

pub refusal : OneText refusal-reads.Post (λ W a. a.0.now) (λ W s. s.0.now)
refusal W laws write dict κs a r r' s s' p q = one_writing r r' _ _ _ _ p.0 q.0 p.1 q.1

pub openings : OneText openings-reads.Post (λ W a. a.0.now) (λ W s. s.0.now)
openings W laws write dict κs a r r' s s' p q = one_writing r r' _ _ _ _ p.0 q.0 p.1 q.1

pub clocks : OneText clocks-reads.Post (λ W a. a.0.now) (λ W s. s.0.now)
clocks W laws write dict κs a r r' s s' p q = one_writing r r' _ _ _ _ p.0 q.0 p.1 q.1

pub unread : OneText unread-reads.Post (λ W a. a.0.now) (λ W s. s.0.now)
unread W laws write dict κs a r r' s s' p q = one_writing r r' _ _ _ _ p.0 q.0 p.1 q.1

pub printed : OneResult printed-reads.Post
printed κs a r r' s s' p q = p ∙ sym q

one_reading : {E : Type 0} (known : Option (List ℕ)) (first : List ℕ → List ℕ) (r r' : Result Unit E) (read read' : List ℕ)
    → IfOk r (λ x. x ≡ tt) → IfOk r' (λ x. x ≡ tt)
    → OnOk r (IfSome known (λ all. read ≡ first all)) → OnOk r' (IfSome known (λ all. read' ≡ first all))
    → IfSome known (λ _. IsOk r → IsOk r' → (r ≡ r') × (read ≡ read'))
one_reading None first r r' read read' e e' p q = tt
one_reading (Some all) first (Ok x) (Ok x') read read' e e' p q = λ i i'. (ap (λ (t : Unit). Ok t) (e ∙ sym e'), p ∙ sym q)
one_reading (Some all) first (Ok x) (Err _) read read' e e' p q = λ i i'. absurd (false≢true i')
one_reading (Some all) first (Err _) r' read read' e e' p q = λ i i'. absurd (false≢true i)

-- of a reader that tells its bytes, the same ones are read where neither of two reads fails
pub read_list : (R : RattleType) (laws : Laws R) (read : ReadGhosts R.Denot) (dict drop : Dict) (κs : _) (a : _) (r r' : _) (s s' : _)
    → read_list-reads.Post R laws read dict drop κs a r s → read_list-reads.Post R laws read dict drop κs a r' s'
    → IfSome (read.remaining a.0) (λ _. IsOk r → IsOk r' → (r ≡ r') × (s.1.0.now.items ≡ s'.1.0.now.items))
read_list R laws read dict drop κs a r r' s s' p q = one_reading _ (take most_read) r r' _ _ p.0 q.0 p.1.1 q.1.1
