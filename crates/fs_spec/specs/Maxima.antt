-- The greatest sizes and counts: the protocol's (RFC 1094, section 2.3) and this server's.
use Rattle.std.specs.Prelude.{ℕ}

-- bytes of a READ, a WRITE or a page of READDIR (MAXDATA)
abbrev pub max_data : ℕ
max_data = 8_192

-- bytes of a name (MAXNAMLEN)
abbrev pub max_name : ℕ
max_name = 255

-- bytes of a symbolic link's target (MAXPATHLEN)
abbrev pub max_target : ℕ
max_target = 1_024

-- bytes of a regular file
abbrev pub max_file_size : ℕ
max_file_size = 1_048_576

-- files, directories and links of a server
abbrev pub max_files : ℕ
max_files = 8_192

-- directory entries of a server
abbrev pub max_entries : ℕ
max_entries = 16_384

-- blocks of 512 bytes that the regular files of a server take
abbrev pub max_blocks : ℕ
max_blocks = 32_768

-- a file number or cookie that is given: a word, but not all ones
abbrev pub max_number : ℕ
max_number = 4_294_967_294
