use Rattle.std.proofs.Common.{◌≡◌, ◌∙◌, ap, ℕ, ◌<◌, List, [], ◌∷◌, length, ◌≤◌, slice_index_or, arith}
use Rattle.sha2.specs.Sha256.{compress, initial_hash_256, padded_message, sha256, digest_bytes}
use Rattle.digests.specs.Lanes.{column}
use Rattle.digests.proofs.ShortLemmas.{digest-is}
use Rattle.digests.proofs.short.four_digests.Goals as goal

pub returns : goal.returns
returns c =
    let blocks : List (List ℕ) =
    c.padded.result ∷ c.padded-2.result ∷ c.padded-3.result ∷ c.padded-4.result ∷ [] in
    let block = λ (lane : ℕ). slice_index_or blocks lane [] in
    let hash : (lane : ℕ) → lane < 4
    → column lane c.compress.new.state ≡ compress initial_hash_256 (block lane) =
    λ lane within. c.compress.ensures (block lane) lane within (c.rows.ensures lane within)
    ∙ ap (λ (h : List ℕ). compress h (block lane)) (c.initial-state.ensures lane within) in
    let told : (lane : ℕ) (m : List ℕ) (digest : List ℕ) → lane < 4 → length m ≤ 55 → block lane ≡ padded_message m
    → digest ≡ digest_bytes (column lane c.compress.new.state) 8 → digest ≡ sha256 m =
    λ lane m digest within short padded is. is
    ∙ digest-is m short _ (hash lane within ∙ ap (compress initial_hash_256) padded) in
    λ i. told 0 c.args.a.now c.digest.result (omega arith) c.requires.a c.padded.ensures c.digest.ensures i
    ∷ told 1 c.args.b.now c.digest-2.result (omega arith) c.requires.b c.padded-2.ensures c.digest-2.ensures i
    ∷ told 2 c.args.c.now c.digest-3.result (omega arith) c.requires.c c.padded-3.ensures c.digest-3.ensures i
    ∷ told 3 c.args.d.now c.digest-4.result (omega arith) c.requires.d c.padded-4.ensures c.digest-4.ensures i
    ∷ []
