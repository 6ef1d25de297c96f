-- What is proved of the journal's records, for every version. Assumes nothing.
use Rattle.std.specs.Prelude.{◌≡◌, refl, Bool, true, false, cond, List, ◌++◌, ℕ, Option, None, Some}
use Rattle.std.proofs.Common.{sym, ◌∙◌, ap, arith, lit≤}
use Rattle.std.proofs.Math.Pow.{are_bytes}
use Rattle.rules.specs.Calls.{Call}
use Rattle.journal.specs.declared.Kind.{Kind}
use Rattle.journal.specs.declared.Fields.{Fields}
use Rattle.journal.specs.Fields.{found}
use Rattle.journal.specs.Records.{Version, v01, v02, version_numbered, fields_of, kind_numbered, call_of, kind_of, values_of, parse, call_parsed, read_record, record_bytes, write_record, writable}
use Rattle.journal.proofs.RecordLaws.{call_of_values, parse_record, parse_given, call_parsed_lem, record_of_call, one_kind}
use Rattle.journal.specs.Places.{read_at, call_read}
use Rattle.journal.proofs.PlaceLaws.{reading_is_call}
use Rattle.journal.specs.Journal.{framed, records, contents, start_of, next_in, after_start, after_next}
use Rattle.journal.proofs.JournalLaws.{start_contents, next_contents}
use Rattle.journal.specs.Writes.{values_in, givable_all, in_frame, kind_in, record_in, record_for, record_of}
use Rattle.journal.specs.LongerTexts.{writable_longer}
use Rattle.journal.proofs.WriteLaws.{Sized, frame_found, record_read, given_alike}

-- what is written reads back as the same call, for every call that can be written
pub written_reads_back : (v : Version) (c : Call) → writable v c ≡ true → read_record v (write_record v c) ≡ Some c
unfolding writable write_record read_record
written_reads_back v c h = ap (call_parsed v) (parse_record v (kind_of c) (values_of v c) h) ∙ ap Some (call_of_values v c)

-- what is read can be written
pub read_is_writable : (v : Version) (l : List ℕ) (c : Call) → are_bytes l ≡ true → read_record v l ≡ Some c → writable v c ≡ true
unfolding writable read_record
read_is_writable v l c h e = (parse_given v l (kind_of c) (values_of v c) h (call_parsed_lem v (parse v l) c e)).fit

-- what is read, written again, is the same bytes
pub read_writes_back : (v : Version) (l : List ℕ) (c : Call) → are_bytes l ≡ true → read_record v l ≡ Some c → write_record v c ≡ l
unfolding write_record read_record
read_writes_back v l c h e = (parse_given v l (kind_of c) (values_of v c) h (call_parsed_lem v (parse v l) c e)).same

-- decoding is a function, so a record has one reading
pub one_reading : (v : Version) (l : List ℕ) (c d : Call) → read_record v l ≡ Some c → read_record v l ≡ Some d → c ≡ d
one_reading v l c d p q = cc

-- a call has one record: no other bytes read as it
pub one_record : (v : Version) (l m : List ℕ) (c : Call) → are_bytes l ≡ true → are_bytes m ≡ true → read_record v l ≡ Some c → read_record v m ≡ Some c → l ≡ m
one_record v l m c hl hm p q = sym (read_writes_back v l c hl p) ∙ read_writes_back v m c hm q

-- the records of one call in two versions stand for the same call
pub versions_agree : (v w : Version) (c : Call) → writable v c ≡ true → writable w c ≡ true → read_record v (write_record v c) ≡ read_record w (write_record w c)
versions_agree v w c h k = written_reads_back v c h ∙ sym (written_reads_back w c k)

-- every record of version 01 has a record of version 02 that stands for the same call
pub old_record_anew : (l : List ℕ) (c : Call) → are_bytes l ≡ true → read_record v01 l ≡ Some c → read_record v02 (write_record v02 c) ≡ Some c
old_record_anew l c h e = written_reads_back v02 c (writable_longer v01 v02 (lit≤ tt) c (read_is_writable v01 l c h e))

-- what the reader answers to a list of bytes stands for the call of those bytes, or for none
pub reader_gives_the_call : (v : Version) (l : List ℕ) → are_bytes l ≡ true → call_read v (read_at v l) l ≡ read_record v l
reader_gives_the_call v l h = reading_is_call v l h

-- what a whole journal holds, taken apart as the code does: by its start, then by what stands next, record after record
pub start_gives_the_contents : (l : List ℕ) → contents l ≡ after_start (start_of l) l
start_gives_the_contents = start_contents

pub next_gives_the_contents : (v : Version) (l : List ℕ) → are_bytes l ≡ true → records v l ≡ after_next v l (next_in v l)
next_gives_the_contents = next_contents

-- a record that the writer is given, written: the frame gives its bytes back, whatever follows, and they read as its call
pub record ReadsBack (v : Version) (d : Fields) (t b rest : List ℕ) : Type 0 where
  pub kind : Kind
  pub numbered : kind_numbered v d.kind ≡ Some kind
  pub bytes : b ≡ in_frame (record_bytes v kind (values_in v (fields_of v kind) d t))
  pub framed_again : framed (b ++ rest) ≡ found (record_bytes v kind (values_in v (fields_of v kind) d t)) rest
  pub read_again : read_record v (record_bytes v kind (values_in v (fields_of v kind) d t)) ≡ Some (call_of v kind (values_in v (fields_of v kind) d t))

pub writer_reads_back : (v : Version) (d : Fields) (t b rest : List ℕ) → Sized d → record_in v d t ≡ Some b → ReadsBack v d t b rest
unfolding record_in
writer_reads_back v d t b rest s e = by_kind (kind_numbered v d.kind) refl e
  where
    given : (k : Kind) (g : Bool) → kind_numbered v d.kind ≡ Some k → givable_all v (fields_of v k) d t ≡ g
        → cond g (Some (in_frame (record_bytes v k (values_in v (fields_of v k) d t)))) None ≡ Some b → ReadsBack v d t b rest
    given k true n g e =
        let eb : in_frame (record_bytes v k (values_in v (fields_of v k) d t)) ≡ b = cc in
        record {
          kind = k;
          numbered = n;
          bytes = sym eb;
          framed_again = rw (← eb) (frame_found v k d t rest s g);
          read_again = record_read v k d t s g;
        }
    given k false n g e = let z : ◌≡◌ {A = ℕ} 0 1 = cc in absurd (omega arith)

    by_kind : (o : Option Kind) → kind_numbered v d.kind ≡ o → kind_in v o d t ≡ Some b → ReadsBack v d t b rest
    by_kind None n e = let z : ◌≡◌ {A = ℕ} 0 1 = cc in absurd (omega arith)
    by_kind (Some k) n e = given k (givable_all v (fields_of v k) d t) n refl e

-- the same of a version that is named by its number
pub record ReadsBackIn (n : ℕ) (d : Fields) (t b rest : List ℕ) : Type 0 where
  pub version : Version
  pub named : version_numbered n ≡ Some version
  pub reads : ReadsBack version d t b rest

pub numbered_reads_back : (n : ℕ) (d : Fields) (t b rest : List ℕ) → Sized d → record_of n d t ≡ Some b → ReadsBackIn n d t b rest
numbered_reads_back n d t b rest s e = by_version (version_numbered n) refl e
  where
    by_version : (o : Option Version) → version_numbered n ≡ o → record_for o d t ≡ Some b → ReadsBackIn n d t b rest
    by_version None m q = let z : ◌≡◌ {A = ℕ} 0 1 = cc in absurd (omega arith)
    by_version (Some v) m q = record { version = v; named = m; reads = writer_reads_back v d t b rest s q }

-- the other way round: bytes that are read as the call of the fields are the ones that the writer gives for them
pub read_is_written : (v : Version) (d : Fields) (t b rest l : List ℕ) → (r : ReadsBack v d t b rest) → are_bytes l ≡ true
    → read_record v l ≡ Some (call_of v r.kind (values_in v (fields_of v r.kind) d t)) → b ≡ in_frame l
read_is_written v d t b rest l r h e =
    let k = r.kind in
    let x = values_in v (fields_of v k) d t in
    r.bytes ∙ ap in_frame (record_of_call v k x ∙ read_writes_back v l (call_of v k x) h e)

-- the records that the writer gives for the same fields in two versions stand for the same call
abbrev pub call_back : (n : ℕ) (d : Fields) (t b rest : List ℕ) → ReadsBackIn n d t b rest → Call
call_back n d t b rest r = call_of r.version r.reads.kind (values_in r.version (fields_of r.version r.reads.kind) d t)

pub writers_agree : (n m : ℕ) (d : Fields) (t b c rest left : List ℕ) (x : ReadsBackIn n d t b rest) (y : ReadsBackIn m d t c left)
    → call_back n d t b rest x ≡ call_back m d t c left y
writers_agree n m d t b c rest left x y =
    let k : y.reads.kind ≡ x.reads.kind = one_kind y.version x.version d.kind y.reads.kind x.reads.kind y.reads.numbered x.reads.numbered in
    given_alike x.version y.version x.reads.kind d t
    ∙ ap (λ (j : Kind). call_of y.version j (values_in y.version (fields_of y.version j) d t)) (sym k)
