-- The body that names a fault, as it is written.
use Rattle.std.proofs.Common.{◌≡◌, refl, ℕ, codes}
use Rattle.json.specs.Print.{escape_byte}
use Rattle.topology_http.specs.declared.fault.HttpFault.TheVariants.{Partial, BadHead, Chunked, NoLength, TooLarge, NoSuchPath, Memory}
use Rattle.topology_http.specs.Faults.{body_of}

pub partial_text : codes "{\"fault\":\"partial\"}" ≡ body_of Partial
unfolding escape_byte
partial_text = refl

pub bad_head_text : codes "{\"fault\":\"bad head\"}" ≡ body_of BadHead
unfolding escape_byte
bad_head_text = refl

pub chunked_text : codes "{\"fault\":\"chunked\"}" ≡ body_of Chunked
unfolding escape_byte
chunked_text = refl

pub no_length_text : codes "{\"fault\":\"no length\"}" ≡ body_of NoLength
unfolding escape_byte
no_length_text = refl

pub too_large_text : (n : ℕ) → codes "{\"fault\":\"too large\"}" ≡ body_of (TooLarge n)
unfolding escape_byte
too_large_text n = refl

pub no_path_text : codes "{\"fault\":\"no such path\"}" ≡ body_of NoSuchPath
unfolding escape_byte
no_path_text = refl

pub memory_text : codes "{\"fault\":\"memory\"}" ≡ body_of Memory
unfolding escape_byte
memory_text = refl
