mod Filling
