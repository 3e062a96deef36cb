mod BadDiskLemmas
